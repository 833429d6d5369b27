pub mod LegalLemmas
pub mod OnceLemmas
