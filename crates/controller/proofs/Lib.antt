pub mod Turn
pub mod Slots
pub mod Stages
pub mod Steps
pub mod Rule
pub mod Pushed
pub mod Mirror
