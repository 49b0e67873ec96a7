pub mod Sizes
pub mod Writing
pub mod Pieces
pub mod Reading
pub mod Bodies
pub mod Reached
pub mod Labels
pub mod Whole
