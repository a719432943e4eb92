-- What judging a slot's kept certificates asks of a caller.
use Rattle.std.specs.Prelude.{◌≡◌, Bool, not, ◌||◌, List, ℕ, suc, ◌≤◌, ◌<◌, get_or, leb}
use Rattle.rulebook.specs.Certificates.{Kept}
use Rattle.rulebook.specs.Tools.{all_to}
use Rattle.rulebook.specs.Weights.{most_nodes, last_slot}
use Rattle.rulebook.specs.Ledger.{no_kept, places, table_of, most_certificates, certificates_at, is_kept, kept_at}
use Rattle.stakes.specs.declared.LentTable.{LentTable}
use Rattle.stakes.specs.Table.{Fit}
use Rattle.record.specs.Layout.{Long, InKept, ledger_of}
use Rattle.record.specs.Tabled.{Tabled}

-- The words are as many as they should be, the slot is one of 1 to 16, the record's stakes are a table of no more nodes than a table
-- may have, and there is no place without a node.
pub record Judging (ws : List ℕ) (s : ℕ) : Type 0 where
  pub long : Long ws
  pub later : 1 ≤ s
  pub slot : s < suc last_slot
  pub table : Tabled (ledger_of ws)
  pub few : (ledger_of ws).count ≤ most_nodes
  pub full : places (ledger_of ws) ≡ (ledger_of ws).count

-- Likewise, the table is that of the record's stakes, and kept says whether place n of the slot's places for certificates keeps one.
pub record JudgingPlace (ws : List ℕ) (t : LentTable) (s n : ℕ) (kept : Bool) : Type 0 where
  pub judging : Judging ws s
  pub fit : Fit (table_of (ledger_of ws)) t
  pub place : n < most_certificates
  pub asked : kept ≡ is_kept (kept_at (ledger_of ws) s n)

-- Of the first n places, those of kind 3 keep a certificate each.
abbrev pub filled_to : List Kept → ℕ → Bool
filled_to qs n = all_to n (λ m. not (leb 4 m) || is_kept (get_or qs m no_kept))

-- One of a slot's places for certificates: kept says whether it keeps one, and filled, past the first of kind 3, whether all of kind 3
-- before it do.
pub record InTurn (ws : List ℕ) (s n : ℕ) (kept filled : Bool) : Type 0 where
  pub place : InKept ws s n
  pub asked : kept ≡ is_kept (kept_at (ledger_of ws) s n)
  pub front : 4 < n → filled ≡ filled_to (certificates_at (ledger_of ws) s) n
