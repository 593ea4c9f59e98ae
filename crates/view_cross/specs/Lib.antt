pub mod Rows
pub mod Pair
pub mod Matched
pub mod Laws
pub mod Whole
