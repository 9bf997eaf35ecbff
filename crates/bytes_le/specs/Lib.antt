pub mod LittleEndian
pub mod Zeros
