pub mod Places
pub mod Machine
pub mod Standing
pub mod Running
pub mod States
pub mod inner
