pub mod Sides
pub mod Links
pub mod Chains
pub mod Joining
