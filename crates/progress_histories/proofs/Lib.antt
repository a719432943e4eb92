pub mod Cells
pub mod Stuck
pub mod Tests
pub mod Histories
