pub mod Content
pub mod kubectl
