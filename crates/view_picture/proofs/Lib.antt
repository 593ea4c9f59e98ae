pub mod Picturing
pub mod Parting
pub mod Joining
pub mod Listed
pub mod Placed
