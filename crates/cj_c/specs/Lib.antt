pub mod Held
pub mod Faults
pub mod Opening
pub mod Shown
pub mod Status
pub mod Times
pub mod answers
