pub mod Positions
pub mod Scanning
pub mod Walks
