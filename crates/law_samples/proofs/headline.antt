pub mod Kept
pub mod Circuits
pub mod Partnered
pub mod Answering
pub mod Devices
