pub mod Order
pub mod Mine
pub mod Refs
pub mod Picked
pub mod Active
pub mod Success
pub mod Surplus
