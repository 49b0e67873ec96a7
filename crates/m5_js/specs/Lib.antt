pub mod Page
pub mod Spelling
pub mod Fault
pub mod code
