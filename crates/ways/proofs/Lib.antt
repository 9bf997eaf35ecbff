pub mod Choosing
pub mod AllWays
