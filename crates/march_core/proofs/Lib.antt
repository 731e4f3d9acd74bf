pub mod Consistent
pub mod Built
pub mod Directions
pub mod Scanning
pub mod Refusals
pub mod Addresses
