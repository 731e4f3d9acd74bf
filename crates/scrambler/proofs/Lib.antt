pub mod LinearLemmas
pub mod EliminationLemmas
pub mod Steps
pub mod Clearing
pub mod ScramblingLemmas
pub mod Identity
pub mod Dependences
