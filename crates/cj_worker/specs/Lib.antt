pub mod Sequences
pub mod Zoned
pub mod Syncs
pub mod Outlines
pub mod Errors
pub mod Ends
pub mod Workers
