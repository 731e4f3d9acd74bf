pub mod Actions
pub mod Code
pub mod OpenActions
pub mod OpenCode
pub mod Places
pub mod Reading
