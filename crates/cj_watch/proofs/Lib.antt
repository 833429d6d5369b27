pub mod MirrorLemmas
pub mod Pieces
pub mod Numbered
pub mod Logs
