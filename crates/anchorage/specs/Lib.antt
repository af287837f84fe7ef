pub mod Bonds
pub mod Quantities
pub mod Lengths
pub mod Rules
pub mod Ranges
