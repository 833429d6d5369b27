pub mod Decided
pub mod LawsLemmas
