pub mod Value
pub mod Context
pub mod Operators
pub mod Rules
pub mod Typing
pub mod Laws
pub mod Program
pub mod Width
