pub mod Lists
pub mod Firsts
mod ManifestsLemmas
pub mod One
pub mod Onces
pub mod Claims
pub mod GapsLemmas
pub mod ProgressLemmas
pub mod QueueLemmas
pub mod StoreLemmas
