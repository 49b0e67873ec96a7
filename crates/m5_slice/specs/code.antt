-- What the code writes, and the slices by their worlds.
pub mod Slices
pub mod Written
