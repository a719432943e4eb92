-- What is seen of lives is what the rule book's theorems speak of.
pub mod More
pub mod Numbers
pub mod Alive
pub mod Ring
pub mod Safety
pub mod Written
pub mod Readers
pub mod Watchers
pub mod Chain
pub mod Further
pub mod Progress
pub mod Fed
pub mod Cards
pub mod Grounded
pub mod Fallbacks
