-- The words that calls leave are sound, so each slot's card is the recount.
use Rattle.soundness.proofs.Laws.{sound_cards}
use Rattle.calls.specs.Cards.{CardsKept}
use Rattle.calls.proofs.Life.{stays_sound}

pub cards_kept : CardsKept
cards_kept v w e k = sound_cards w.words (stays_sound v w e k)
