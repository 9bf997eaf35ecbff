pub mod Split
pub mod Digits
pub mod Decimal
pub mod Inner
