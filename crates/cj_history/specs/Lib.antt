pub mod Legal
pub mod Once
pub mod Times
pub mod gaps
pub mod manifests
pub mod progress
pub mod queue
pub mod store
