pub mod Support
pub mod Trays
