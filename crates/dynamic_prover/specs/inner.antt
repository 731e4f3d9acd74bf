pub mod Own
pub mod Shapes
pub mod Ways
pub mod Legs
pub mod OpTables
pub mod Spots
pub mod Numbers
