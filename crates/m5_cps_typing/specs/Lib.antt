pub mod States
pub mod Closures
pub mod Rows
pub mod Laws
