pub mod Receipts
pub mod Walks
pub mod Books
pub mod States
pub mod Runs
