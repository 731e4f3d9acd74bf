pub mod Pairs
pub mod Searching
