pub mod Feeds
pub mod Mirror
pub mod Out
pub mod Planning
