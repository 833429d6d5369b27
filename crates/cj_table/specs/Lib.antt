pub mod Apart
pub mod Tags
pub mod jobs
