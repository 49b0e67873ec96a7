pub mod Arguments
pub mod Making
pub mod Naming
pub mod Plain
pub mod Reading
pub mod Surveying
pub mod Walking
pub mod Writing
