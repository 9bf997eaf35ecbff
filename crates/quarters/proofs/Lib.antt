pub mod Thresholds
pub mod Later
pub mod Laws
