pub mod Telling
pub mod Moving
pub mod Placing
pub mod Marking
pub mod Reading
pub mod Fars
pub mod Bounding
mod Listing
mod Covering
