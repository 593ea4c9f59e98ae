pub mod Selections
pub mod Found
pub mod Lifted
pub mod Sorted
pub mod Beside
