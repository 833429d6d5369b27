pub mod Times
pub mod Queue
pub mod Parts
pub mod laws
