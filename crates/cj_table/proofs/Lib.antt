pub mod JobsLemmas
pub mod Order
mod Tags
mod Sorted
pub mod Gets
pub mod Puts
pub mod Apart
pub mod Rows
