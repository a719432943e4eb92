-- One pass over a slot's cells: whether they fit, and the weights that the card is held to.
use Rattle.std.specs.Prelude.{◌≡◌, Bool, true, not, ◌&&◌, ◌||◌, List, ℕ, ◌+◌, ◌<◌, ◌≤◌, ◌^◌, eqb}
use Rattle.rulebook.specs.declared.Cell.{Cell}
use Rattle.rulebook.specs.declared.Who.TheVariants as who
use Rattle.rulebook.specs.Tools.{part, all_to}
use Rattle.rulebook.specs.Weights.{stake_in, weight}
use Rattle.rulebook.specs.Ledger.{Ledger, none, places, cell_at}
use Rattle.rulebook.specs.Pool.{counts}
use Rattle.rulebook.specs.WellFormed.{in_order, cell_fits}
use Rattle.record.specs.Layout.{ledger_of}
use Rattle.pool.specs.Weighing.{Weighing}
use Rattle.audit.specs.declared.Sums.{Sums}

-- The rule book's tests of a cell's fallback blocks.
unfoldable pub fallbacks_fit : Cell → Bool
fallbacks_fit c =
    in_order c.fallback1 c.fallback2
    && (in_order c.fallback2 c.fallback3 && (none c.fallback3 || not (eqb c.fallback1 c.fallback3)))

-- A notar vote, no skip, no skip-fallback and no third fallback: most cells that are not blank.
unfoldable pub plain : Cell → Bool
plain c = not (none c.notar) && (none c.skip && (none c.skipfallback && none c.fallback3))

-- The cell has a notar vote for b; there is none for no block.
unfoldable pub votes_for : ℕ → Cell → Bool
votes_for b c = not (none c.notar) && eqb c.notar b

-- Sums by their test and five numbers, and those of no cell.
abbrev pub sums_of : Bool → ℕ → ℕ → ℕ → ℕ → ℕ → Sums
sums_of fits skip finals skipcert any lead =
    record {
      fits = fits;
      skip = record { 0 = skip };
      finals = record { 0 = finals };
      skipcert = record { 0 = skipcert };
      any = record { 0 = any };
      lead = record { 0 = lead };
    }

abbrev pub no_sums : Sums
no_sums = sums_of true 0 0 0 0 0

-- The sums with one cell more, of a node of stake w, where the card names b.
unfoldable pub with_cell : Sums → Cell → ℕ → ℕ → Sums
with_cell x c w b =
    sums_of (x.fits && cell_fits c) (x.skip.0 + part (counts who.Skip c) w) (x.finals.0 + part (counts who.Final c) w)
    (x.skipcert.0 + part (counts who.SkipOrFallback c) w) (x.any.0 + part (counts who.AnyNotar c) w) (x.lead.0 + part (votes_for b c) w)

-- The sums over the first n nodes of slot s.
unfoldable pub sums_to : Ledger → ℕ → ℕ → ℕ → Sums
sums_to l s b n =
    let over : (Cell → Bool) → ℕ = (λ p. weight l.stakes n (λ i. p (cell_at l s i))) in
    sums_of (all_to n (λ i. cell_fits (cell_at l s i))) (over (counts who.Skip)) (over (counts who.Final)) (over (counts who.SkipOrFallback))
    (over (counts who.AnyNotar)) (over (votes_for b))

-- ---- what inner functions ask of their callers

-- A stake more, and no sum wraps.
pub record Room (x : Sums) (w : ℕ) : Type 0 where
  pub skip : x.skip.0 + w ≤ 2 ^ 48
  pub finals : x.finals.0 + w ≤ 2 ^ 48
  pub skipcert : x.skipcert.0 + w ≤ 2 ^ 48
  pub any : x.any.0 + w ≤ 2 ^ 48
  pub lead : x.lead.0 + w ≤ 2 ^ 48

-- The slot can be weighed, n is one of its nodes, and its stake can be added.
pub record Adding (ws : List ℕ) (s n : ℕ) (x : Sums) : Type 0 where
  pub weighing : Weighing ws s
  pub node : n < (ledger_of ws).count
  pub room : Room x (stake_in (ledger_of ws).stakes n)

-- The slot can be weighed, and these are its sums where the card names b.
pub record Summed (ws : List ℕ) (s b : ℕ) (x : Sums) : Type 0 where
  pub weighing : Weighing ws s
  pub sums : x ≡ sums_to (ledger_of ws) s b (ledger_of ws).count

-- The slot can be weighed, and there is no place without a node.
pub record Auditing (ws : List ℕ) (s : ℕ) : Type 0 where
  pub weighing : Weighing ws s
  pub full : places (ledger_of ws) ≡ (ledger_of ws).count
