pub mod Marking
pub mod Unread
pub mod Wired
pub mod Reaching
