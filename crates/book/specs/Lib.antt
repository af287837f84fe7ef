pub mod Faults
pub mod Meaning
pub mod Fields
pub mod Written
pub mod Plain
pub mod Plainness
