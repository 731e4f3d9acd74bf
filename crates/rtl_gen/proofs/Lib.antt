pub mod Mirror
pub mod Runs
pub mod Listed
pub mod Addressed
pub mod Sizes
pub mod Made
pub mod Numbers
