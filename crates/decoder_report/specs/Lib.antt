pub mod Report
pub mod OneText
pub mod inner
