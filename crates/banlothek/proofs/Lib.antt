pub mod Fits
pub mod Accepting
pub mod Asking
pub mod Refusing
