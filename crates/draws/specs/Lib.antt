pub mod Request
pub mod Demand2
pub mod Table
