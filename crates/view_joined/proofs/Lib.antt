pub mod Motions
pub mod Put
pub mod Paths
pub mod Growing
pub mod Covered
pub mod Small
pub mod FarNets
