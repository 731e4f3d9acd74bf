pub mod Files
pub mod MemHost
