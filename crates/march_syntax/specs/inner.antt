pub mod Answers
pub mod Building
pub mod Places
pub mod Printed
