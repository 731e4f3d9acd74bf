pub mod Pairs
pub mod Seen
pub mod inner
