pub mod Escapes
pub mod inner
