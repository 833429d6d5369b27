pub mod Bases
pub mod Fields
pub mod Forms
pub mod Placed
pub mod Told
