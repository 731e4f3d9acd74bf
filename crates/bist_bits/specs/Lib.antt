pub mod Vector
pub mod Width
