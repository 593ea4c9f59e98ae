pub mod Folding
pub mod Escapes
pub mod Spells
