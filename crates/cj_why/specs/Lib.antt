pub mod Since
pub mod Missed
pub mod Running
pub mod Why
pub mod reviews
