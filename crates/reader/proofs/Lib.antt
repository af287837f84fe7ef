pub mod Placed
pub mod Tables
pub mod Naming
pub mod Bearing
pub mod Turns
pub mod Opening
pub mod Saying
