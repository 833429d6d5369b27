pub mod Members
pub mod StartDecisions
pub mod One
pub mod Claims
pub mod Orders
pub mod Ends
pub mod Fitting
