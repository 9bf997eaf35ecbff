pub mod Whole
pub mod Ending
pub mod Texts
pub mod Places
