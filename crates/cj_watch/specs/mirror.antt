pub mod Lagging
pub mod Laws
