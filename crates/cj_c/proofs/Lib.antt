mod ComingValues
mod Depths
mod Lines
mod NoFloats
mod Ruled
mod WhyValues
mod ZonesTold
pub mod HeldSteps
mod Openings
