pub mod Then
pub mod Words
pub mod Ending
pub mod Conclude
pub mod OneOutcome
