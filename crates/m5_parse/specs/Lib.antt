pub mod First
pub mod After
pub mod Kinds
pub mod Rows
pub mod Machine
pub mod Work
pub mod Gives
pub mod Answers
