pub mod Owners
pub mod Slots
pub mod Index
