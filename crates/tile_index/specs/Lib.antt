pub mod Windows
pub mod Entries
pub mod Trees
pub mod Inside
