pub mod Dues
pub mod Ends
pub mod Shares
