pub mod Staging
pub mod Equations
pub mod Registers
pub mod Seen
pub mod Building
pub mod Waiting
pub mod Settles
