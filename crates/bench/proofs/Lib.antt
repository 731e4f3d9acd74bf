pub mod Inputs
pub mod Outputs
pub mod Turning
pub mod Stages
pub mod Histories
pub mod Beside
pub mod OneRun
pub mod Refusing
