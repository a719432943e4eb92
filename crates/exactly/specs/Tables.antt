-- ONE STAKE TABLE: two records are compared as of one table exactly where their tables are one list of stakes.
use Rattle.std.specs.Prelude.{◌≡◌, Bool, true}
use Rattle.rulebook.specs.Ledger.{Ledger, table_of}
use Rattle.settling.specs.Facts.{Sound}
use Rattle.difference_lines.specs.Lines.{same_tables}

-- The same stakes in the same order, one for each node: own numbers, places without a node and all else aside.
abbrev pub OneTable : Ledger → Ledger → Type 0
OneTable l m = table_of l ≡ table_of m

-- A test says that something is so exactly where it is.
pub record SaysExactly (test : Bool) (so : Type 0) : Type 0 where
  pub means : test ≡ true → so
  pub only : so → test ≡ true

-- Of sound ledgers, so of all that records hold which are not answered 17.
abbrev pub TablesCompared : Type 0
TablesCompared = (l m : Ledger) → Sound l → Sound m → SaysExactly (same_tables l m) (OneTable l m)
