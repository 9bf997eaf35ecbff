pub mod Steps
pub mod Carrying
pub mod Meaning
