-- Laws of the rules tried in one slot, of bare and of dormant ones, of those behind a slot that makes no parent ready, and of the blocks that
-- a slot's places for certificates name.
pub mod SlotLaws
pub mod DormantLaws
pub mod NameLaws
pub mod Stranded
