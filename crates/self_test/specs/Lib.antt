pub mod Expected
pub mod Numbers
pub mod Pins
pub mod Ports
pub mod Refusals
pub mod SelfTest
pub mod WrongPort
