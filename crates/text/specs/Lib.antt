pub mod Values
pub mod Texts
pub mod Tokens
