-- What a tray of votes does on the ledger, and cases of it computed.
pub mod Trays
pub mod CornersOfTrays
