pub mod Alphabet
pub mod Lexed
pub mod Lexeme
pub mod Place
pub mod Shown
pub mod Token
pub mod Tokens
