pub mod Turning
pub mod Sites
pub mod Opening
pub mod UpTo
pub mod Running
pub mod Run
