pub mod Code
pub mod Bytes
pub mod Rows
pub mod Places
pub mod Running
pub mod Steps
pub mod inner
