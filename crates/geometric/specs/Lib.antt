pub mod Geometric
