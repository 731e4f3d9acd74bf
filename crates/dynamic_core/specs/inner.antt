pub mod Detecting
pub mod Dynamic
pub mod Items
pub mod Reading
pub mod Testing
