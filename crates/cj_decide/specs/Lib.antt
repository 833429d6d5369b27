pub mod StartDecisions
pub mod Start
pub mod Finally
pub mod Decision
pub mod laws
