pub mod Spelling
pub mod Server
pub mod Listing
pub mod code
