pub mod legal
pub mod once
pub mod Promise
