-- What a life tells, once and all of it; and what it holds.
pub mod Told
pub mod CornersOfTold
pub mod Held
pub mod Parts
pub mod Apart
