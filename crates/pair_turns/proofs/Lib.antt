pub mod Gone
pub mod Greater
pub mod Lines
pub mod Lists
pub mod Marked
pub mod Sides
pub mod Sized
pub mod Tabled
