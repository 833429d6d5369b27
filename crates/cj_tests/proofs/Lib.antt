mod QueueLemmas
mod WatchLemmas
