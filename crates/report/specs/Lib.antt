pub mod Items
pub mod Report
pub mod OneText
