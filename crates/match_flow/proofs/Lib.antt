pub mod Counted
pub mod Paired
pub mod Sided
pub mod Narrow
pub mod Again
