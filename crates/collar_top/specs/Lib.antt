pub mod CollarTops
pub mod Links
pub mod CollarText
pub mod Refused
