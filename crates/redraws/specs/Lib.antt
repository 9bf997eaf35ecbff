pub mod Redraw
