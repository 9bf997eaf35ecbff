pub mod Opening
pub mod Damaged
