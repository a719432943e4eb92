-- What is seen of lives is what `finals` speaks of.
pub mod Finals
pub mod Fed
pub mod Calls
