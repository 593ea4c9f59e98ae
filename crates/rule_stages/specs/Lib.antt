pub mod Selections
pub mod Depths
pub mod Stages
pub mod Marks
pub mod StageRules
