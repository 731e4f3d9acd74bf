pub mod Heard
pub mod Seeking
