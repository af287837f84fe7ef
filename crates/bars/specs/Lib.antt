pub mod Lines
pub mod Tests
pub mod Details
pub mod Meaning
pub mod Listing
pub mod Ordering
pub mod Passing
