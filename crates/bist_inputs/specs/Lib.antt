pub mod Inputs
pub mod Memories
pub mod Chips
pub mod Designs
