pub mod Close
pub mod Reading
pub mod Closing
