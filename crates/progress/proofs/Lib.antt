pub mod Ascending
pub mod Going
pub mod Grows
pub mod Named
pub mod Resting
pub mod Ends
pub mod NeverHangs
pub mod Watching
