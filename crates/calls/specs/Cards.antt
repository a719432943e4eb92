-- The tally cards after calls on words that 17 lets pass, wherever the words are from.
use Rattle.std.specs.Prelude.{◌≡◌, true}
use Rattle.rulebook.specs.Cards.{CardsAgree}
use Rattle.soundness.specs.Sound.{sound_words}
use Rattle.seen.specs.Seen.{Seen, ledger_in}
use Rattle.calls.specs.Life.{Calls}

-- Each slot's card is the recount of the votes that the words store, after each call, accepted or refused.
abbrev pub CardsKept : Type 0
CardsKept = (v w : Seen) → sound_words v.words ≡ true → Calls v w → CardsAgree (ledger_in w)
