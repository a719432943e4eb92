pub mod Beside
pub mod Staying
pub mod Noted
