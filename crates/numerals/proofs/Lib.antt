pub mod Reading
pub mod Rounding
pub mod Written
pub mod Finding
