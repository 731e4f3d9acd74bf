pub mod Judging
pub mod OneReport
