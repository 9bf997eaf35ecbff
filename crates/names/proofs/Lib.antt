pub mod Names
pub mod Each
