pub mod Counting
pub mod Greeting
pub mod Chat
