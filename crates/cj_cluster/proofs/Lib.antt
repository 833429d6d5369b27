pub mod KubectlLemmas
pub mod Sound
