pub mod Numbers
pub mod PhasesLemmas
