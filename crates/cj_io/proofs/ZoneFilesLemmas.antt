pub mod FileNames
pub mod Rules
pub mod Files
pub mod Pruned
