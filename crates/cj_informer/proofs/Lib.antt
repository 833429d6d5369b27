pub mod Goes
pub mod Items
pub mod Feeds
pub mod Steps
