pub mod Bars
pub mod Marks
pub mod Gaps
pub mod Replay
pub mod Run
