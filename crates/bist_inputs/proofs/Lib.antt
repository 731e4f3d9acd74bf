pub mod Causes
pub mod OneInput
pub mod Designing
pub mod OneDesign
