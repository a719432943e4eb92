-- What a host that died reads off its record; what it may send, and when; rings whose firms die and start again; and the history of the other order.
pub mod Kept
pub mod Deeds
pub mod CornersOfDeeds
pub mod Ring
pub mod Histories
