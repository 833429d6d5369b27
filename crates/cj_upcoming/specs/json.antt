pub mod Changes
pub mod Coming
pub mod Minutes
pub mod Standings
