-- What a tray keeps in mind of who names blocks, and cases of it computed.
pub mod Looks
pub mod CornersOfLooks
