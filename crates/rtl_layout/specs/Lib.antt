pub mod Build
pub mod Plan
pub mod Layout
pub mod Control
pub mod Shows
pub mod Numbers
pub mod Seen
pub mod inner
