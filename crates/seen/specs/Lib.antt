-- What is seen of a life, rings of such lives, and every promise over them, once.
pub mod Seen
pub mod Ring
pub mod Safety
pub mod Written
pub mod Chain
pub mod Progress
pub mod Fed
pub mod Cards
pub mod Readers
pub mod Grounded
pub mod Fallbacks
pub mod Watchers
