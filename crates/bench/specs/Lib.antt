pub mod Joint
pub mod Endings
pub mod Laws
pub mod Beside
pub mod inner
