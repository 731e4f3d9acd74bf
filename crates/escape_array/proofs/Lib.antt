pub mod LeastArray
pub mod Replaying
