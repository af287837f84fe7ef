pub mod Writing
pub mod Spelling
pub mod Lining
