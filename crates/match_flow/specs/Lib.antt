pub mod Again
pub mod Devices
pub mod Phase
