pub mod BenchedBoxes
pub mod ChipParts
pub mod LetterBits
pub mod RunsBeside
pub mod UnitTables
