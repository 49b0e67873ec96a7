-- What the lists that keep a region stand for.
pub mod Stored
pub mod Keeps
