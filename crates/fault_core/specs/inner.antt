pub mod Rows
pub mod Testing
