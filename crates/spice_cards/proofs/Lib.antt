pub mod TokenLemmas
pub mod PartLemmas
