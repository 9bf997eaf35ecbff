pub mod Range
pub mod Ending
pub mod Laws
pub mod Twelve
