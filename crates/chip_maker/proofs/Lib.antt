pub mod Joined
pub mod Passed
pub mod Drawing
