pub mod Keeps
pub mod WorkerLemmas
