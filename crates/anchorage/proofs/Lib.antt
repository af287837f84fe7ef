pub mod Asking
pub mod Rising
pub mod Bounds
pub mod Meeting
pub mod Computing
