pub mod Reducing
pub mod Settling
pub mod ModeTest
pub mod Signs
pub mod Walks
pub mod Kept
pub mod Laws
pub mod RustWalking
