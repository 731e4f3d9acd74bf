pub mod Printed
pub mod Shallow
