pub mod MarchText
pub mod Printed
pub mod Limits
pub mod Answers
pub mod inner
