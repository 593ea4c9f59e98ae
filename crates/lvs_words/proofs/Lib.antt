pub mod Numbering
pub mod Reading
pub mod Naming
pub mod Apart
