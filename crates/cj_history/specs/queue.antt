pub mod Deeds
pub mod LookBacks
pub mod Laws
pub mod Answers
pub mod Calls
pub mod Rest
