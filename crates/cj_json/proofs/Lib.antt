pub mod NamedLemmas
pub mod Plain
pub mod TokenLemmas
