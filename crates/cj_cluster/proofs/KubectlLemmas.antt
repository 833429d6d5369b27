pub mod InstantLemmas
pub mod Places
pub mod ActiveLemmas
pub mod Depth
pub mod ListLemmas
pub mod ItemLemmas
pub mod TextLemmas
pub mod StreamLemmas
