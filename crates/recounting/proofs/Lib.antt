pub mod Leading
pub mod Storing
pub mod Quick
pub mod Sixty
pub mod Using
pub mod Scanning
