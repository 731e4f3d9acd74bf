pub mod Testing
pub mod Few
pub mod Searching
