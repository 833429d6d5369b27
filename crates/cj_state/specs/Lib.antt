pub mod Readings
pub mod WorkerCalls
pub mod Step
pub mod Sound
pub mod Legal
pub mod phases
