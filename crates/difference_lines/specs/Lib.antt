-- Which votes differ: the lines of two ledgers, what is promised of them, and cases computed.
pub mod Lines
pub mod Promises
pub mod CornersOfLines
