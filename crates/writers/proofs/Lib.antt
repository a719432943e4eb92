-- Laws of the writers.
pub mod Verdicts
pub mod Laid
