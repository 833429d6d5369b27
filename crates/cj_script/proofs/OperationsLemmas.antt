pub mod Printed
pub mod Rest
pub mod Reasons
pub mod Splits
