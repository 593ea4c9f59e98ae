pub mod Layers
pub mod Zones
pub mod Opens
