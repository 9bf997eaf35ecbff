pub mod Fresh
pub mod Delivering
pub mod Refusals
pub mod Striking
pub mod Worked
pub mod Elsewhere
pub mod LeftOver
