pub mod Zeros
pub mod Laws
