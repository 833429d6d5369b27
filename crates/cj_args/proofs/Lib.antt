pub mod Refused
pub mod Texts
pub mod Simple
pub mod Building
pub mod Named
