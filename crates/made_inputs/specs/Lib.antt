pub mod MadeMarch
pub mod MadeMemory
pub mod MadeList
pub mod inner
