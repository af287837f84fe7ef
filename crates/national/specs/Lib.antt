pub mod Acceptance
pub mod Annexes
pub mod Reading
