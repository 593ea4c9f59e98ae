pub mod Grounding
pub mod Listed
pub mod Terminals
