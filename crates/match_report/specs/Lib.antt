pub mod Apart
pub mod Gates
pub mod Pairs
pub mod Report
pub mod Words
