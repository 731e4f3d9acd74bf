pub mod Words
pub mod Escapes
pub mod Joint
pub mod Memories
pub mod Alike
pub mod Report
pub mod Digits
pub mod inner
