pub mod CollarTest
pub mod Tops
