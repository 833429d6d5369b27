pub mod Marks
pub mod Syncs
pub mod Causes
pub mod Gaps
pub mod Whole
pub mod Late
pub mod reading
