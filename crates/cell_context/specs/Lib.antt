pub mod Steps
pub mod Arrays
pub mod Visits
pub mod Over
pub mod Placed
pub mod Search
