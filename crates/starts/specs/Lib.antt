-- What start does, and cases of it computed.
pub mod Starting
pub mod CornersOfStarts
