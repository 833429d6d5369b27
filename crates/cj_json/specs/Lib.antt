pub mod Parts
pub mod Named
pub mod Objects
pub mod Values
pub mod Tokens
