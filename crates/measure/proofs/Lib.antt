pub mod Ceiling
pub mod Order
pub mod Errors
