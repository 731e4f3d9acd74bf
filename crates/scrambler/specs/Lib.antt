pub mod Linear
pub mod Reduced
pub mod Scrambling
pub mod Undoing
pub mod inner
