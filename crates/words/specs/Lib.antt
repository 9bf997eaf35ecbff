pub mod Words
pub mod Outcome
pub mod Rule
pub mod Refusals
pub mod Paper
pub mod Draw
pub mod Inner
