pub mod Bases
pub mod Corners
pub mod Lines
pub mod Links
pub mod Phase
pub mod Sets
pub mod Tagged
pub mod Used
