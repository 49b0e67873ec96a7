-- What the code keeps while it reads a message, and while it writes one.
pub mod Finds
pub mod Ids
pub mod Opened
pub mod Adding
pub mod Tail
pub mod Keys
pub mod Fits
