mod Rows
mod Names
mod Parts
mod Said
mod Writes
pub mod OneOutcome
pub mod Settling
