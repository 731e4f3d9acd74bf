pub mod Threes
pub mod Searching
pub mod Testing
pub mod Numbers
