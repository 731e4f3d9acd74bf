pub mod Escapes
pub mod Verdicts
pub mod inner
