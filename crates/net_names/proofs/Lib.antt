pub mod Spelling
pub mod Rules
