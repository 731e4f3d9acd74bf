pub mod Knowing
pub mod Loops
pub mod Opened
pub mod Putting
