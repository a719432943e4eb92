-- Laws of a tray.
pub mod Behind
pub mod Words
