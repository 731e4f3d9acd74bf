pub mod Primitive
pub mod Stepping
pub mod Detection
pub mod Escapes
pub mod Agreeing
pub mod inner
