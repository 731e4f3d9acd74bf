pub mod EverySize
pub mod Seen
pub mod Judged
pub mod Tables
