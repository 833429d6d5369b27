pub mod Instant
pub mod Field
pub mod ScheduleCause
