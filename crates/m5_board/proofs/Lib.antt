pub mod DeskChanges
pub mod Telling
pub mod Answering
mod Eachs
mod Stored
pub mod Opened
