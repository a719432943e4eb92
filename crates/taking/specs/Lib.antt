-- What taking a certificate packet promises, and cases of it computed.
pub mod Taking
pub mod CornersOfTakes
