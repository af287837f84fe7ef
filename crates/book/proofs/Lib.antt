pub mod Judging
pub mod Testing
