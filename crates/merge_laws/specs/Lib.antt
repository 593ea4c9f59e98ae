pub mod Leaves
pub mod Merge
pub mod Grouped
pub mod Whole
