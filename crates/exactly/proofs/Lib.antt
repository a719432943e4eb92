-- Why they hold.
pub mod Tables
pub mod Compared
pub mod Written
