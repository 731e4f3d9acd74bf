pub mod Links
pub mod Report
pub mod OneText
pub mod Places
pub mod inner
