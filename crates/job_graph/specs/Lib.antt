pub mod Graph
pub mod Over
pub mod Notes
pub mod Table
pub mod Levels
pub mod Sharing
pub mod Machine
pub mod Book
