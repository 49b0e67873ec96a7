pub mod Boards
pub mod Networks
pub mod AllTexts
pub mod Progress
pub mod Numbers
pub mod Holding
