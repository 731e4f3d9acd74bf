pub mod Chips
pub mod ChipLines
pub mod ChipTable
pub mod inner
