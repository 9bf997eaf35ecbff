pub mod Deliver
pub mod Strike
pub mod Worked
pub mod Inner
