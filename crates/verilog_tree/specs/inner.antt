pub mod Plain
pub mod Rules
pub mod Seen
pub mod Tables
