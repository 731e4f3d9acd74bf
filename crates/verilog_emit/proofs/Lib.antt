pub mod Bodies
pub mod Derivations
pub mod OneTree
pub mod Numerals
pub mod Pieces
pub mod WrittenExpressions
pub mod WrittenStatements
pub mod WrittenModule
