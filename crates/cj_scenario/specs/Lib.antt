pub mod Scenes
pub mod Parts
pub mod Live
pub mod Made
pub mod Minutes
pub mod detection
