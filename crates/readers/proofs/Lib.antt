-- What is answered, way by way.
pub mod Ways
pub mod Missing
