pub mod Audit
pub mod Upcoming
pub mod Why
