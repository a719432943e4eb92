-- A row with nothing in it, in the ledger and in words.
use Rattle.std.specs.Prelude.{Bool, ◌&&◌, List, ℕ, ◌+◌, ◌*◌}
use Rattle.rulebook.specs.Tools.{all_to}
use Rattle.rulebook.specs.Ledger.{Ledger, none, row_at, all_blocks, no_card}
use Rattle.rulebook.specs.Cards.{same_card}
use Rattle.rulebook.specs.WellFormed.{block_blank, kept_blank, each_kept, cells_fit}
use Rattle.record.specs.Layout.{word_at}

-- The n words from place a on are 0.
unfoldable pub none_from : List ℕ → ℕ → ℕ → Bool
none_from ws a n = all_to n (λ j. none (word_at ws (a + j)))

-- Every second of the words from place a on is 0, eight of them.
unfoldable pub seconds_none : List ℕ → ℕ → Bool
seconds_none ws a = all_to 8 (λ j. none (word_at ws (a + 2 * j)))

-- Slot s has no block, no mark, nothing on its card, no kept certificate and no vote: as row 0 has to be.
unfoldable pub nothing_in : Ledger → ℕ → Bool
nothing_in l s =
    let r = row_at l s in
    all_blocks block_blank r.blocks
    && ((none r.timed_out && (none r.final && none r.clash)) && (same_card r.card no_card && (each_kept (λ i q. kept_blank q) 0 r.certificates && cells_fit l s 0)))
