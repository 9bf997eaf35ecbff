pub mod Powers
pub mod Squarings
pub mod Edge
pub mod Spans
pub mod Turns
pub mod Ending
