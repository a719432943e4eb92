-- The customer's sentences, over the contracts alone.
pub mod Refusals
pub mod Panels
pub mod Exactly
pub mod Spelling
pub mod Figures
pub mod Printed
pub mod CornersOfParts
pub mod Families
pub mod Differs
pub mod Stands
pub mod Vouched
pub mod Pieces
pub mod Cards
pub mod Readers
pub mod Certificates
pub mod Watchers
