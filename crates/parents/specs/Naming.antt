-- What asking for ready parents asks of a caller, and the tests of the names in a slot.
use Rattle.std.specs.Prelude.{◌≡◌, Bool, false, not, ◌||◌, List, ℕ, ◌+◌, ◌≤◌, ◌<◌, length, get_or}
use Rattle.rulebook.specs.declared.Cell.{Cell}
use Rattle.rulebook.specs.declared.CertificateKind.TheVariants as certificate
use Rattle.rulebook.specs.Tools.{some_to}
use Rattle.rulebook.specs.Weights.{weight, total_to}
use Rattle.rulebook.specs.Certificates.{Kept}
use Rattle.rulebook.specs.Ledger.{Ledger, none, no_kept, most_certificates, cell_at, certificates_at}
use Rattle.rulebook.specs.Pool.{held}
use Rattle.rulebook.specs.Cards.{CardsAgree}
use Rattle.record.specs.Layout.{ledger_of}
use Rattle.pool.specs.Weighing.{Weighing, Carded, named_holds}

-- As for a certificate (`Carded`), at a parent's slot, which may be genesis's.
pub record Parental (ws : List ℕ) (p : ℕ) : Type 0 where
  pub weighing : Weighing ws p
  pub cards : CardsAgree (ledger_of ws)

-- Likewise, for the slots between two: p may be any slot below s.
pub record Between (ws : List ℕ) (p s : ℕ) : Type 0 where
  pub carded : Carded ws s
  pub below : p < s

-- ---- the names of a slot

-- Some block that the cell names passes.
unfoldable pub some_named : (ℕ → Bool) → Cell → Bool
some_named p c =
    named_holds p c.notar || (named_holds p c.fallback1 || (named_holds p c.fallback2 || named_holds p c.fallback3))

-- Some block that a place for certificates names passes.
unfoldable pub some_kept_holds : (ℕ → Bool) → List Kept → Bool
some_kept_holds p qs = some_to (length qs) (λ n. named_holds p (get_or qs n no_kept).block)

-- The slot's certificates can be asked for, and n is one of its places for certificates.
pub record Keeping (ws : List ℕ) (s n : ℕ) : Type 0 where
  pub carded : Carded ws s
  pub place : n < most_certificates

-- The cell names some block.
unfoldable pub names_some : Cell → Bool
names_some c = not (none c.notar) || (not (none c.fallback1) || (not (none c.fallback2) || not (none c.fallback3)))

-- The stake in a slot of the nodes that name some block.
unfoldable pub named_weight : Ledger → ℕ → ℕ
named_weight l s = weight l.stakes l.count (λ n. names_some (cell_at l s n))

-- n nodes are looked at, and what is left of the total is the stake of those of them that name some block and of all behind them.
pub record Left (l : Ledger) (s n left : ℕ) : Type 0 where
  pub few : n ≤ l.count
  pub is : left + total_to l.stakes n ≡ weight l.stakes n (λ i. names_some (cell_at l s i)) + l.total

-- Node n is the next to be looked at.
pub record Leaving (ws : List ℕ) (s n left : ℕ) : Type 0 where
  pub weighing : Weighing ws s
  pub node : n < (ledger_of ws).count
  pub begun : Left (ledger_of ws) s n left

-- The slot's certificates can be asked for, and no block that a kept one names holds kind 3.
pub record Unkept (ws : List ℕ) (s : ℕ) : Type 0 where
  pub carded : Carded ws s
  pub kept : some_kept_holds (held (ledger_of ws) certificate.NotarFallback s) (certificates_at (ledger_of ws) s) ≡ false
