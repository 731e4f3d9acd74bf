pub mod Primitive
pub mod Cells
pub mod Table
pub mod Classes
pub mod inner
