pub mod Moved
pub mod Spots
pub mod Nets
pub mod Paths
pub mod Devices
pub mod Joined
pub mod Covered
pub mod Far
