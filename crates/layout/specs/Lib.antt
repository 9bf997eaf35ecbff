pub mod Book
pub mod Sound
pub mod Standing
pub mod Inner
