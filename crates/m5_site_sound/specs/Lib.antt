pub mod Settings
pub mod Texts
pub mod Threads
pub mod Sites
pub mod SourceMachine
pub mod Laws
