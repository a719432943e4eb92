-- What the checker says of what a writer wrote.
pub mod ReadBack
