pub mod AnyOf
pub mod Named
pub mod Places
pub mod Wrong
