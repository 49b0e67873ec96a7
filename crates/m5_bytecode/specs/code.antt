-- What the code reads, and what it keeps while it reads.
pub mod Reading
pub mod Bodies
pub mod Blocks
