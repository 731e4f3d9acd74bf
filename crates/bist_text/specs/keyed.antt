pub mod Numbers
pub mod Reading
pub mod Parts
pub mod Lines
pub mod Texts
