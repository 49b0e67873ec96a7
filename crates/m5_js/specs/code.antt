-- What the code reads, and what it keeps while it reads.
pub mod Guess
pub mod GuessedStep
pub mod Bodies
pub mod Lines
