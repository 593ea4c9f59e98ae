pub mod Flags
pub mod Numbers
pub mod Items
pub mod Seen
pub mod Fitting
pub mod Commands
