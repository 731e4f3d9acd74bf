pub mod Answering
pub mod Expected
pub mod Following
pub mod Lexing
pub mod Places
pub mod Reading
pub mod Refusals
