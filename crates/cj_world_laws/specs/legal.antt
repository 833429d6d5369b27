pub mod Answers
pub mod InFlightSyncs
pub mod Exclusive
pub mod Callers
pub mod Rest
