-- What the code's data stand for.
pub mod Made
pub mod Surveying
pub mod Views
pub mod Walking
pub mod Writing
