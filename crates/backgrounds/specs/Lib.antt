pub mod Backgrounds
