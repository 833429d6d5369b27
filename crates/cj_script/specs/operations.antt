pub mod Verbs
pub mod Instants
pub mod Operations
pub mod Finishes
pub mod Plain
pub mod Plans
pub mod Calls
