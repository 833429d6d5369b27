pub mod FenceLemmas
