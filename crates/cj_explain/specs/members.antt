pub mod Wants
pub mod Members
pub mod Actions
pub mod Items
pub mod Wholes
pub mod Looks
