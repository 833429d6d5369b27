-- What became of each Job, and when: the time line of a history.
pub mod Moments
pub mod Running
pub mod Known
pub mod Bars
pub mod Marks
pub mod Happenings
pub mod Lines
