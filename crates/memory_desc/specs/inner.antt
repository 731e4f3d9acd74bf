pub mod Heard
pub mod Met
pub mod Printed
pub mod Seeking
pub mod Seen
pub mod Standing
