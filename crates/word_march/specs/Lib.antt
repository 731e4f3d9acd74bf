pub mod Commands
pub mod PortRule
pub mod Laws
pub mod Standing
pub mod inner
