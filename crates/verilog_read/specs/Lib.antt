pub mod Style
pub mod inner
