-- Laws of the state and of the front, and the promises.
pub mod Runs
pub mod Tests
pub mod Ways
pub mod Laid
pub mod Front
pub mod Held
pub mod Promises
