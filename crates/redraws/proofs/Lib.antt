pub mod Redrawing
