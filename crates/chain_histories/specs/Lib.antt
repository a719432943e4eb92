pub mod Tests
pub mod Rings
pub mod Histories
