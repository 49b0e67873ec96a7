pub mod Represents
pub mod Emit
pub mod Follows
pub mod Laws
