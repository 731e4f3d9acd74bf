pub mod Decoding
pub mod Detection
pub mod Escapes
pub mod Conditions
pub mod Lines
pub mod Books
pub mod TakenCells
pub mod inner
