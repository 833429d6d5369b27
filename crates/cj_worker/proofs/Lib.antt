pub mod Outlines
pub mod Rests
pub mod Shown
pub mod Synced
pub mod Full
pub mod Passes
pub mod Threads
