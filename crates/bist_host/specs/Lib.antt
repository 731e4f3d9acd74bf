pub mod Files
pub mod MemHost
pub mod MemFile
pub mod FailHost
pub mod inner
