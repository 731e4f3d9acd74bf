pub mod Rows
pub mod Turn
pub mod Behind
pub mod Assembled
pub mod Stepped
