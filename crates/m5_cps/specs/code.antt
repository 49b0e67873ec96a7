-- What the data of the code stand for.
pub mod Rows
pub mod TableCode
