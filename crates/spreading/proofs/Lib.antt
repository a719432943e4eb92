-- What is handed over is kept, and what is kept makes blocks final; what is honest finds its place; a host that asks.
pub mod Kept
pub mod Spreading
pub mod Answers
pub mod Announcing
