pub mod Exchanges
pub mod Informs
pub mod Outcomes
