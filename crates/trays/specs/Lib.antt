-- What a tray of votes does in lent memory, and cases of it computed.
pub mod Lent
pub mod CornersOfLent
