-- What a record shows to people: defined for any words, and for any slot and node.
use Rattle.std.specs.Prelude.{Bool, false, not, ◌&&◌, ◌||◌, List, ℕ, zero, suc, ◌+◌, ◌≤◌, get_or}
use Rattle.rulebook.specs.Tools.{choose, whenever, some_to}
use Rattle.rulebook.specs.Weights.{most_nodes, last_slot, slot_ok}
use Rattle.rulebook.specs.Ledger.{Ledger, none, no_block, row_at, cell_at, is_watcher, is_armed, blocks_at, first_block, is_block, keeps_block, certificates_at}
use Rattle.rulebook.specs.WellFormed.{cell_blank, each_kept, kept_blank}
use Rattle.record.specs.Layout.{ledger_of}
use Rattle.record.specs.Spelling.{is_spelled}
use Rattle.record.specs.Setting.{no_ledger}
use Rattle.pool.specs.Weighing.{Weighing}

-- The ledger that the words hold; one with nothing in it where no record has so many words.
unfoldable pub ledger_in : List ℕ → Ledger
ledger_in ws = whenever (is_spelled ws) (λ _. ledger_of ws) (no_ledger 0)

-- The node is a watcher; none is where no record has so many words.
unfoldable pub watcher_shown : List ℕ → Bool
watcher_shown ws = whenever (is_spelled ws) (λ _. is_watcher (ledger_of ws)) false

-- The slot's window is armed; none is where no record has so many words, or the slot is not one of 1 to 16.
unfoldable pub armed_shown : List ℕ → ℕ → Bool
armed_shown ws s = whenever (slot_ok s && is_spelled ws) (λ _. is_armed (ledger_of ws) s) false

-- The block in place i of slot t is that slot's final block, with the parent (s, b).
abbrev pub leads_at : Ledger → ℕ → ℕ → ℕ → ℕ → Bool
leads_at l s b t i = is_block (row_at l t).final s b (get_or (blocks_at l t) i no_block)

-- The final block of slot t is kept there with the parent (s, b): where that block is final, so is b in slot s.
unfoldable pub leads_to : Ledger → ℕ → ℕ → ℕ → Bool
leads_to l s b t = keeps_block l t (row_at l t).final s b

-- The lowest of the next n slots, from slot t on, that passes the test; 0 where none does.
unfoldable pub lowest_slot : (ℕ → Bool) → ℕ → ℕ → ℕ
lowest_slot p zero t = 0
lowest_slot p (suc n) t = choose (p t) t (lowest_slot p n (t + 1))

-- The lowest of the slots 1 to 16 whose final block is kept there with the parent (s, b); 0 where there is none.
unfoldable pub final_child : Ledger → ℕ → ℕ → ℕ
final_child l s b = lowest_slot (leads_to l s b) last_slot 1

-- A vote of node n is stored in slot s.
abbrev pub voted : Ledger → ℕ → ℕ → Bool
voted l s n = not (cell_blank (cell_at l s n))

-- Some node's vote is stored in slot s.
unfoldable pub has_votes : Ledger → ℕ → Bool
has_votes l s = some_to l.count (voted l s)

-- A certificate is kept in slot s: not every place for one is blank.
unfoldable pub has_certificates : Ledger → ℕ → Bool
has_certificates l s = not (each_kept (λ i q. kept_blank q) 0 (certificates_at l s))

-- Anything is kept of slot s: a block (the first place is filled first), a timeout, a final block, a vote, a certificate.
unfoldable pub touched : Ledger → ℕ → Bool
touched l s =
    let r = row_at l s in
    not (none (first_block l s).number)
    || ((not (none r.timed_out) || not (none r.final)) || (has_votes l s || has_certificates l s))

-- The slot can be weighed, and the nodes are few enough to count what they name.
pub record Counting (ws : List ℕ) (s : ℕ) : Type 0 where
  pub weighing : Weighing ws s
  pub few : (ledger_of ws).count ≤ most_nodes
