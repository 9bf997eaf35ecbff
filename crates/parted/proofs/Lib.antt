pub mod Parting
pub mod Lacking
