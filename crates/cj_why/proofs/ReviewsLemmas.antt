pub mod Leads
pub mod Moved
pub mod Rows
pub mod Values
