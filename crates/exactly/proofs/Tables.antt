-- The comparison of stake tables is exact, and what qr_differ says of them. Assumes nothing.
use mathlib.Core.Path.{◌≡◌, sym, ap, ◌∙◌}
use mathlib.Core.Bool.{true}
use mathlib.Core.List.{List}
use Prim.Native.Nat.{ℕ, ◌≤◌, ◌<◌}
use native.Mathlib.Omega.{arith}
use lib.ListN.{length, get_or}
use lib.Dec.{eqb}
use lib.Seq.{get_or-take, length-take-le, ext_get_or}
use borrow.Author.Tests.{eq-eqb, eqb-true}
use Rattle.rulebook.specs.Weights.{stake_in}
use Rattle.rulebook.specs.Ledger.{Ledger, places, table_of}
use Rattle.rule_laws.proofs.ToolLaws.{and_both, both_and, all_at, all_each}
use Rattle.settling.specs.Facts.{Sound}
use Rattle.settling.proofs.FactLaws.{count_placed, formed}
use Rattle.difference_lines.specs.Lines.{same_tables}
use Rattle.exactly.specs.Tables.{OneTable, TablesCompared}

-- ---- of ledgers

module _ (l m : Ledger) (p : l.count ≤ places l) (q : m.count ≤ places m) where
  long : length (table_of l) ≡ l.count
  long = length-take-le l.count l.stakes p

  other_long : length (table_of m) ≡ m.count
  other_long = length-take-le m.count m.stakes q

  one_table : same_tables l m ≡ true → OneTable l m
  unfolding same_tables
  one_table e =
      let f = and_both (eqb l.count m.count) _ e in
      let c : l.count ≡ m.count = eqb-true l.count m.count f.0 in
      ext_get_or 0 (table_of l) (table_of m) (long ∙ c ∙ sym other_long)
      (λ i h.
      let k : i < l.count = omega (arith, h, long) in
      get_or-take l.count l.stakes i 0 k
      ∙ eqb-true (stake_in l.stakes i) (stake_in m.stakes i) (all_at l.count i (λ n. eqb (stake_in l.stakes n) (stake_in m.stakes n)) f.1 k)
      ∙ sym (get_or-take m.count m.stakes i 0 (omega (arith, k, c))))

  same_tables_lem : OneTable l m → same_tables l m ≡ true
  unfolding same_tables
  same_tables_lem e =
      let c : l.count ≡ m.count = sym long ∙ ap length e ∙ other_long in
      both_and (eqb l.count m.count) _ (eq-eqb l.count m.count c)
      (all_each l.count (λ n. eqb (stake_in l.stakes n) (stake_in m.stakes n))
      (λ i k. eq-eqb (stake_in l.stakes i) (stake_in m.stakes i)
      (sym (get_or-take l.count l.stakes i 0 k) ∙ ap (λ (xs : List ℕ). get_or xs i 0) e ∙ get_or-take m.count m.stakes i 0 (omega (arith, k, c)))))

placed : (l : Ledger) → Sound l → l.count ≤ places l
placed l h = count_placed l (formed l h.formed).head

pub tables_compared : TablesCompared
tables_compared l m h k =
    record { means = one_table l m (placed l h) (placed m k); only = same_tables_lem l m (placed l h) (placed m k) }
