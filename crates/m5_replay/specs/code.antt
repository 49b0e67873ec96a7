-- What the code holds, and what each of its functions says.
pub mod Cutting
pub mod Front
pub mod Looking
pub mod Making
pub mod Running
pub mod Answering
