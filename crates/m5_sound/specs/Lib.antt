pub mod Networks
pub mod Texts
pub mod Numbers
pub mod Laws
