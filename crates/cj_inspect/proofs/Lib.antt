pub mod AskedForms
pub mod CallsLemmas
pub mod FilesLemmas
pub mod NightLemmas
