-- A history as it is printed, a line an entry.
pub mod Fields
pub mod Listed
pub mod Entries
