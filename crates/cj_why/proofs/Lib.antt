pub mod ReviewsLemmas
