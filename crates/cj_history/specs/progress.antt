pub mod Kept
pub mod Undisturbed
pub mod Syncs
pub mod Every
pub mod Apart
pub mod Prompt
