pub mod Examples
pub mod Asking
pub mod Greeting
pub mod Chat
