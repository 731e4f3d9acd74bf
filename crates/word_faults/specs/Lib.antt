pub mod Linked
pub mod Decoders
pub mod Dynamic
pub mod Cells
pub mod Alike
pub mod There
pub mod Reached
pub mod Laws
