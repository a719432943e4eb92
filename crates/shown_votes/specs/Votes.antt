-- Stored votes: how many there are, and who has some.
use Rattle.std.specs.Prelude.{Bool, not, ◌&&◌, List, ℕ, zero, suc, ◌+◌, ◌-◌}
use Rattle.rulebook.specs.declared.Cell.{Cell}
use Rattle.rulebook.specs.Tools.{choose, whenever, part, sum_to}
use Rattle.rulebook.specs.Weights.{slot_ok, weight}
use Rattle.rulebook.specs.Ledger.{Ledger, none, cell_at}
use Rattle.record.specs.Layout.{ledger_of}
use Rattle.soundness.specs.Sound.{sound_words}
use Rattle.shown_votes.specs.declared.Stored.{Stored}
use Rattle.shown.specs.Shown.{voted}

-- The first of the `many` numbers from i on that passes; the number after them where none does.
unfoldable pub first_from : ℕ → ℕ → (ℕ → Bool) → ℕ
first_from zero i f = i
first_from (suc many) i f = choose (f i) i (first_from many (i + 1) f)

-- The first node from i on with a vote in slot s; no node's number where there is none.
unfoldable pub voter_from : Ledger → ℕ → ℕ → ℕ
voter_from l s i = first_from (l.count - i) i (voted l s)

-- How many votes a cell holds.
unfoldable pub votes_in : Cell → ℕ
votes_in c =
    let one : ℕ → ℕ = (λ x. part (not (none x)) 1) in
    (one c.notar + one c.skip)
    + ((one c.fallback1 + (one c.fallback2 + one c.fallback3)) + (one c.skipfallback + one c.finalvote))

-- What is stored in slot s: so many votes, by so many nodes of such a weight.
unfoldable pub stored_in : Ledger → ℕ → Stored
stored_in l s =
    record {
      votes = sum_to l.count (λ n. votes_in (cell_at l s n));
      nodes = sum_to l.count (λ n. part (voted l s n) 1);
      weight = record { 0 = weight l.stakes l.count (voted l s) };
    }

-- The same of any words; nothing where they are no sound record, or the slot is not one of 1 to 16.
unfoldable pub stored_shown : List ℕ → ℕ → Stored
stored_shown ws s =
    whenever (slot_ok s && sound_words ws) (λ _. stored_in (ledger_of ws) s) (record { votes = 0; nodes = 0; weight = record { 0 = 0 } })
