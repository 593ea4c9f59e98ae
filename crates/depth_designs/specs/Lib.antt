pub mod Chosen
pub mod Stages
