pub mod Run
pub mod Differing
pub mod Detection
pub mod inner
