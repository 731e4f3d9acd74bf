pub mod Answers
pub mod Brief
pub mod LineByLine
pub mod LineReading
pub mod Names
pub mod Places
