pub mod Values
pub mod Sites
pub mod Trees
pub mod Laws
