pub mod Written
pub mod Cutting
pub mod Joining
