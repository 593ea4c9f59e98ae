pub mod ShutLaws
pub mod LayerLaws
pub mod NetLaws
pub mod GateLaws
pub mod SeedLaws
pub mod Planned
pub mod NetlistLaws
pub mod FlatGates
