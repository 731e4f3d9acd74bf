mod NameLaws
pub mod PlaceLaws
mod Kept
pub mod Judging
mod PrimReads
pub mod PrintLaws
pub mod LineByLine
pub mod Appending
pub mod PassedOn
pub mod LineExact
pub mod ListExact
pub mod OneOutcome
