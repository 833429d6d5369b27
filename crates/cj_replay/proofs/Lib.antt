pub mod Answered
pub mod Called
pub mod Stepped
pub mod Printed
pub mod Replayed
