mod AloneLemmas
pub mod ComingLemmas
mod CreatedLemmas
mod FollowLemmas
pub mod KeptLemmas
pub mod NameLemmas
pub mod MarkLemmas
pub mod RefLemmas
pub mod RowLemmas
mod SegmentLemmas
