pub mod Codes
pub mod Holds
pub mod Homes
pub mod Kept
mod StoreLawsLemmas
