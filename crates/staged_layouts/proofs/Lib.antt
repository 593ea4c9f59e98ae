pub mod Stages
pub mod Agreeing
pub mod Cells
pub mod Laws
pub mod Joined
pub mod OneDepth
