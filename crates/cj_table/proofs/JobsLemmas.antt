pub mod Standing
pub mod Owning
pub mod Stored
pub mod Found
pub mod Whose
pub mod Writes
pub mod Updates
pub mod Kept
