pub mod Selects
pub mod Whole
pub mod Layered
pub mod RegionLaws
pub mod SelectLaws
pub mod Staged
pub mod Grouped
pub mod Rest
