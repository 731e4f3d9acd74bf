pub mod ClassLines
pub mod Counts
pub mod PlainItems
pub mod ClassOrder
pub mod OneReport
