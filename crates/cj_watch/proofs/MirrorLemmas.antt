pub mod Puts
pub mod Following
pub mod Numbered
