pub mod Patterns
pub mod GrammarLaw
pub mod LastRecord
