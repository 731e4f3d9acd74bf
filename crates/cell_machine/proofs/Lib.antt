pub mod Projection
pub mod Alone
pub mod Closing
