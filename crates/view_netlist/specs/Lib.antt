pub mod Kinds
pub mod Rows
pub mod Drawing
pub mod Circuits
pub mod Classes
pub mod Section
