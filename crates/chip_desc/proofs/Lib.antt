pub mod Common
pub mod ArgumentLaws
pub mod OneText
pub mod UnitLines
pub mod Described
