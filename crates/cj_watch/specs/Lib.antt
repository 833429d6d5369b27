pub mod Numbers
pub mod Log
pub mod Laws
pub mod mirror
