pub mod Ids
pub mod Values
pub mod Sent
pub mod Sites
pub mod Shapes
pub mod Fields
pub mod Contents
pub mod Bytes
