pub mod Numbers
pub mod Reading
pub mod Message
pub mod Tree
pub mod Spelling
pub mod Packing
pub mod Sharing
pub mod Laws
