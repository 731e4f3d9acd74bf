pub mod One
pub mod Going
