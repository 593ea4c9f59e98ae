pub mod TokenLemmas
pub mod LineLemmas
