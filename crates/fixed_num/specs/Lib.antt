pub mod Real
pub mod Values
pub mod Scan
pub mod Microns
