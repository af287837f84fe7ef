pub mod Places
pub mod Names
pub mod Lines
pub mod Says
pub mod Headers
