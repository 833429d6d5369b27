pub mod queue
pub mod watch
