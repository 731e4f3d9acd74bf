pub mod JudgedLinks
pub mod Written
pub mod Reporting
pub mod OneReport
pub mod Once
pub mod Places
