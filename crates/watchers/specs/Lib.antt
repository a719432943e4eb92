-- A watcher beside a voting node.
pub mod Watching
mod Cases
