pub mod Lines
pub mod Statuses
pub mod Writing
pub mod zone_files
