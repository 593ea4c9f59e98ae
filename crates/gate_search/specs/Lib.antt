pub mod Gather
pub mod SearchLaws
pub mod BothLaws
