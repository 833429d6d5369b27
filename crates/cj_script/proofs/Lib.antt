pub mod Entered
pub mod Joins
pub mod Deep
pub mod Drafted
pub mod Never
pub mod OperationsLemmas
pub mod SimulationLemmas
