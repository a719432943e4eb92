-- What a well-formed ledger keeps to, as facts instead of one test.
use Rattle.std.specs.Prelude.{◌≡◌, true, false, not, ◌||◌, ℕ, ◌<◌, ◌≤◌, get_or, eqb}
use Rattle.rulebook.specs.declared.Cell.{Cell}
use Rattle.rulebook.specs.Weights.{most_nodes, places_for, most_stake, last_slot, windows, stake_in, total_to}
use Rattle.rulebook.specs.Ledger.{Ledger, Row, none, no_cell, places, table_of, row_at}
use Rattle.rulebook.specs.Cards.{CardsAgree}
use Rattle.rulebook.specs.WellFormed.{Shaped, in_order, cell_fits, cell_blank, blocks_fit, certificates_fit, own_fits, row_blank, well_formed}

-- A cell in range.
pub record CellFacts (c : Cell) : Type 0 where
  pub skip : c.skip ≤ 1
  pub skipfallback : c.skipfallback ≤ 1
  pub finalvote : c.finalvote ≤ 1
  pub initial : (none c.notar || none c.skip) ≡ true
  pub second : in_order c.fallback1 c.fallback2 ≡ true
  pub third : in_order c.fallback2 c.fallback3 ≡ true
  pub apart : (none c.fallback3 || not (eqb c.fallback1 c.fallback3)) ≡ true

-- From c to d no initial vote is lost.
pub record Grown (c d : Cell) : Type 0 where
  pub notar : (b : ℕ) → none b ≡ false → eqb c.notar b ≡ true → eqb d.notar b ≡ true
  pub skip : none c.skip ≡ false → none d.skip ≡ false

-- The two ledgers weigh alike.
pub record SameTable (l m : Ledger) : Type 0 where
  pub own : m.own ≡ l.own
  pub count : m.count ≡ l.count
  pub total : m.total ≡ l.total
  pub stakes : m.stakes ≡ l.stakes

-- A row in range, as row of slot s.
pub record RowFacts (l : Ledger) (s : ℕ) (r : Row) : Type 0 where
  pub blocks : blocks_fit l s r.blocks ≡ true
  pub timed_out : r.timed_out ≤ 1
  pub clash : r.clash ≤ 1
  pub certificates : certificates_fit (table_of l) s r.certificates ≡ true
  pub cells : (n : ℕ) → n < places l → n < l.count → cell_fits (get_or r.cells n no_cell) ≡ true
  pub beyond : (n : ℕ) → n < places l → l.count ≤ n → cell_blank (get_or r.cells n no_cell) ≡ true

-- Count, own number, genesis, stakes, total and armed windows in range.
pub record HeadFacts (l : Ledger) : Type 0 where
  pub room : places l ≡ places_for l.count
  pub some : 1 ≤ l.count
  pub few : l.count ≤ most_nodes
  pub staked : (n : ℕ) → n < l.count → 1 ≤ stake_in l.stakes n
  pub sum : total_to l.stakes l.count ≡ l.total
  pub small : l.total ≤ most_stake
  pub mine : l.own ≤ l.count
  pub genesis : none l.genesis ≡ false
  pub armed : (w : ℕ) → w < windows → get_or l.armed w 0 ≤ 1
  pub unused : (n : ℕ) → n < places l → l.count ≤ n → stake_in l.stakes n ≡ 0

-- Well-formed.
pub record Formed (l : Ledger) : Type 0 where
  pub head : HeadFacts l
  pub blank : row_blank l ≡ true
  pub rows : (s : ℕ) → 1 ≤ s → s ≤ last_slot → RowFacts l s (row_at l s)
  pub own : (s : ℕ) → 1 ≤ s → s ≤ last_slot → own_fits l s ≡ true
  pub cards : CardsAgree l

-- A ledger of the right shape that 17 lets pass: what every call finds and leaves.
pub record Sound (l : Ledger) : Type 0 where
  pub shaped : Shaped (places l) l
  pub formed : well_formed l ≡ true
