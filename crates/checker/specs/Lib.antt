-- What the contracts of the checker's inner functions cite beside the rule book.
pub mod InPacket
