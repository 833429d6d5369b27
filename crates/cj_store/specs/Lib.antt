pub mod Equal
pub mod Content
pub mod Metadata
pub mod Crons
pub mod Jobs
pub mod Change
pub mod store_laws
