pub mod Badly
pub mod Drawing
pub mod Few
pub mod Jobs
pub mod Moved
pub mod Tabled
