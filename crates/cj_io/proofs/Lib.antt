pub mod LineLemmas
pub mod Written
pub mod ZoneFilesLemmas
