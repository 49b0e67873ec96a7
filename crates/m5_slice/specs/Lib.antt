pub mod Slicing
pub mod Machine
pub mod Going
pub mod Apart
pub mod code
