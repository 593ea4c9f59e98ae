pub mod Found
pub mod Collected
pub mod Windows
pub mod Laws
pub mod Places
