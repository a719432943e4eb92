-- The customer's sentences, proved.
pub mod Refused
pub mod Shown
pub mod ShownChecks
pub mod ShownMessages
pub mod Spelled
pub mod Held
pub mod Figured
pub mod Printed
pub mod Families
pub mod Differs
pub mod Stands
pub mod Vouched
pub mod Pieces
pub mod Readers
pub mod Cards
pub mod Certificates
pub mod Watchers
