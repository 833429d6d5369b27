pub mod Rows
pub mod Queues
