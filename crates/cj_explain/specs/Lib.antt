pub mod Elements
pub mod Fields
pub mod Schedules
pub mod Faults
pub mod ToldFaults
pub mod Taken
pub mod RefusedItems
pub mod members
