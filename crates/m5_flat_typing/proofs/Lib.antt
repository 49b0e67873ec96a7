pub mod Environments
pub mod Runs
pub mod Entered
pub mod Sites
pub mod Labels
pub mod Refused
