pub mod Printed
pub mod Written
pub mod inner
