pub mod Data
pub mod References
pub mod Stream
pub mod Accepted
