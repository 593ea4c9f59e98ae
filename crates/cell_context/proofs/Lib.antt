pub mod Times
pub mod Reaching
pub mod Visiting
pub mod Adding
pub mod Collecting
pub mod Gathering
pub mod Near
pub mod Bringing
