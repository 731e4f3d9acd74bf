pub mod Keywords
pub mod Lexed
pub mod Machine
