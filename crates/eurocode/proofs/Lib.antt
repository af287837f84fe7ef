pub mod Tabled
pub mod Rising
pub mod Sized
