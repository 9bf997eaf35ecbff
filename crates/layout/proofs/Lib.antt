pub mod Decoding
pub mod Positions
pub mod Soundness
pub mod Walking
pub mod Changing
pub mod Following
