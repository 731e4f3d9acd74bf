pub mod Pins
pub mod Asked
pub mod Macros
pub mod Ports
pub mod Going
