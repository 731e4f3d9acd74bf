pub mod Couples
pub mod Searching
pub mod Judged
