pub mod Meaning
pub mod Written
pub mod Places
pub mod Forms
pub mod Resolving
pub mod Program
pub mod Tuple
pub mod Binders
