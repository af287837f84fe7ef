pub mod Printing
pub mod Measuring
