pub mod Interface
pub mod Collared
pub mod Refused
