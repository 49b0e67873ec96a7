-- What the data of the code stand for.
pub mod TableCode
