pub mod Bytes
pub mod Signs
pub mod Texts
pub mod Tokens
pub mod Seen
pub mod Lines
