pub mod Fitting
pub mod Graph
pub mod Kinds
pub mod Numbering
pub mod Parts
pub mod Program
pub mod Scope
pub mod Tabled
