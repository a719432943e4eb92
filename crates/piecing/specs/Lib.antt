-- The line that answers a piece.
pub mod Answer
