pub mod Describe
pub mod Forms
pub mod Next
pub mod Previous
