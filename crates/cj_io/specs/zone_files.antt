pub mod Named
pub mod FileName
pub mod Rules
pub mod Files
pub mod Pruned
