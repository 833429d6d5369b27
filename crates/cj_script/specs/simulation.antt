pub mod Spans
pub mod Times
pub mod Runs
pub mod RunLists
pub mod Seeds
pub mod Edits
pub mod Simulations
