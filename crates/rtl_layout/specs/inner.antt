pub mod Flags
pub mod Layout
pub mod Rows
pub mod Shows
