pub mod MarchLaws
pub mod LineLaws
pub mod MemoryLaws
pub mod ListLaws
