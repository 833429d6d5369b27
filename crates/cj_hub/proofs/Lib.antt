pub mod Placed
pub mod Finds
pub mod Entered
pub mod Runs
pub mod Closing
pub mod Full
