-- The test of two stake tables, and what it leaves known. Assumes nothing.
use mathlib.Core.Path.{◌≡◌, refl, sym, ap, ◌∙◌}
use mathlib.Core.Bool.{Bool, true, false}
use mathlib.Core.List.{List}
use lib.ListN.{length, take, get_or}
use lib.Seq.{length-take-le}
use Rattle.std.proofs.lemmas.List.{get_or-take, ext_get_or}
use Prim.Native.Nat.{ℕ, ◌≤◌}
use lib.Dec.{eqb}
use native.Mathlib.Omega.{arith}
use borrow.Author.Tests.{eq-eqb, eqb-true}
use Rattle.rulebook.specs.Tools.{all_to}
use Rattle.rulebook.specs.Weights.{most_nodes, stake_in}
use Rattle.rulebook.specs.Ledger.{Ledger, places}
use Rattle.rule_laws.proofs.ToolLaws.{by_test, and_both, both_and, all_at, all_each}
use Rattle.record.specs.Layout.{ledger_of}
use Rattle.soundness.proofs.Laws.{sound_head, sound_placed}
use Rattle.difference_lines.specs.Lines.{same_tables}
use Rattle.differences.specs.Lent.{Alike}

-- They are the same where the stakes of the nodes are, as lists.
module _ (l m : Ledger) (p : l.count ≤ places l) (q : m.count ≤ places m) where
  same_alike : take l.count l.stakes ≡ take m.count m.stakes → same_tables l m ≡ true
  unfolding same_tables
  same_alike e =
      let n : l.count ≡ m.count = sym (length-take-le l.count l.stakes p) ∙ ap length e ∙ length-take-le m.count m.stakes q in
      both_and (eqb l.count m.count) _ (eq-eqb l.count m.count n)
      (all_each l.count (λ i. eqb (stake_in l.stakes i) (stake_in m.stakes i)) (λ i h. eq-eqb (stake_in l.stakes i) (stake_in m.stakes i)
      (sym (get_or-take l.count l.stakes i 0 h) ∙ ap (λ (z : List ℕ). get_or z i 0) e ∙ get_or-take m.count m.stakes i 0 (omega (arith, n, h)))))

  alike_same : same_tables l m ≡ true → take l.count l.stakes ≡ take m.count m.stakes
  unfolding same_tables
  alike_same e =
      let k = and_both (eqb l.count m.count) (all_to l.count (λ i. eqb (stake_in l.stakes i) (stake_in m.stakes i))) e in
      let n : l.count ≡ m.count = eqb-true l.count m.count k.0 in
      let here = length-take-le l.count l.stakes p in
      let there = length-take-le m.count m.stakes q in
      ext_get_or 0 (take l.count l.stakes) (take m.count m.stakes) (here ∙ n ∙ sym there)
      (λ i h. get_or-take l.count l.stakes i 0 (omega (arith, here, h))
      ∙ eqb-true (stake_in l.stakes i) (stake_in m.stakes i) (all_at l.count i (λ j. eqb (stake_in l.stakes j) (stake_in m.stakes j)) k.1 (omega (arith, here, h)))
      ∙ sym (get_or-take m.count m.stakes i 0 (omega (arith, here, n, h))))

  pub tables_told : (b : Bool) → (b ≡ true → take l.count l.stakes ≡ take m.count m.stakes) → (take l.count l.stakes ≡ take m.count m.stakes → b ≡ true) → b ≡ same_tables l m
  tables_told true f g = sym (same_alike (f refl))
  tables_told false f g = by_test (same_tables l m) (λ t. g (alike_same t) ∙ sym t) (λ t. sym t)

-- What is known of two records of the same table: as many nodes, all with a place in both.
module _ {one two : List ℕ} (h : Alike one two) where
  pub alike_count : (ledger_of one).count ≡ (ledger_of two).count
  unfolding same_tables
  alike_count = eqb-true (ledger_of one).count (ledger_of two).count (and_both (eqb (ledger_of one).count (ledger_of two).count) _ h.same).0

  pub alike_few : (ledger_of one).count ≤ most_nodes
  alike_few = (sound_head one h.sounds.first).few

  pub alike_here : (ledger_of one).count ≤ places (ledger_of one)
  alike_here = sound_placed one h.sounds.first

  pub alike_there : (ledger_of one).count ≤ places (ledger_of two)
  alike_there = let e = alike_count in omega (arith, sound_placed two h.sounds.second)
