pub mod StripeLemmas
pub mod OneSet
