pub mod Judging
pub mod Trays
