pub mod Parts
pub mod Calls
pub mod Wholes
pub mod Gathers
