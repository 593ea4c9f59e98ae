pub mod Numbers
pub mod Devices
pub mod Calls
pub mod Drawn
pub mod Far
pub mod Placed
pub mod Nets
pub mod Shown
