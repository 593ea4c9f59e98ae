pub mod Formulas
pub mod Meaning
pub mod Laws
pub mod Reads
