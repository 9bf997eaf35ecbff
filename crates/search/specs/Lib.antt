pub mod Power
pub mod Squares
pub mod Search
