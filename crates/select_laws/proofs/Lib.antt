pub mod Kept
pub mod Once
pub mod Choice
pub mod Layered
pub mod Staged
pub mod Grouped
pub mod Rest
