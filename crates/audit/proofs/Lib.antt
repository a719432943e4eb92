pub mod Summing
pub mod Fitting
