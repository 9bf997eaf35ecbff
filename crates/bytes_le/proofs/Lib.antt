pub mod Numbers
pub mod Zeros
pub mod Runs
pub mod Elsewhere
