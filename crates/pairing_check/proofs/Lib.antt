pub mod Rows
pub mod Marked
pub mod Named
pub mod Whole
