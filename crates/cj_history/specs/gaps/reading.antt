-- How far the reading of a history has come: what the code of gaps knows on its way, and no part of
-- what a gap is.
pub mod Known
pub mod Settled
pub mod Intervals
pub mod Listed
pub mod Goes
