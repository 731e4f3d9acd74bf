mod Spelling
mod PlaceLaws
mod Standing
mod OpBuilt
mod Outcomes
mod PrintLaws
pub mod Exceeding
pub mod OneOutcome
