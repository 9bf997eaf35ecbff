pub mod Record
pub mod Reduction
pub mod SetUp
pub mod RustTest
pub mod Inversion
pub mod Hypergeometric
pub mod RustWalk
pub mod Inner
