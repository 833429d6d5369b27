pub mod Clock
pub mod Refused
