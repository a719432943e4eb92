-- The one test of well-formedness and its facts, both ways.
use mathlib.Core.Path.{◌≡◌, sym, ap, ◌∙◌, subst}
use mathlib.Core.Bool.{Bool, true, false, not, ◌&&◌, ◌||◌}
use Prim.Native.Nat.{ℕ, suc, ◌-◌, ◌≤◌}
use native.Mathlib.Omega.{arith}
use lib.ListN.{get_or}
use lib.Dec.{eqb, leb, ltb}
use borrow.Author.Tests.{not-true, leb-true, le-leb, ltb-true, ltb-false, lt-ltb, le-ltb, eqb-true, eq-eqb}
use Rattle.rulebook.specs.declared.Cell.{Cell}
use Rattle.rulebook.specs.declared.Tally.{Tally}
use Rattle.rulebook.specs.Tools.{whenever, all_to}
use Rattle.rulebook.specs.Weights.{most_nodes, places_for, most_stake, last_slot, windows, stake_in, stakes_fit, total_to}
use Rattle.rulebook.specs.Ledger.{Ledger, Row, none, no_cell, places, table_of, row_at, cell_at}
use Rattle.rulebook.specs.Cards.{same_card, recount}
use Rattle.rulebook.specs.WellFormed.{flag, in_order, cell_fits, cell_blank, cells_fit, blocks_fit, certificates_fit, own_fits, row_fits, card_fits, row_blank, head_fits, well_formed}
use Rattle.rule_laws.proofs.ToolLaws.{given_both, given_on, given_off, and_both, both_and, or_left, or_right, or_cases, by_test, true_not_false, all_at, all_each}
use Rattle.rule_laws.proofs.PlaceLaws.{nodes_placed}
use Rattle.recounting.proofs.Using.{same_card_lem, card_same}
use Rattle.settling.specs.Facts.{CellFacts, RowFacts, HeadFacts, Formed}

-- ---- two tests, the second only where the first passes

pub both_given : (b : Bool) (f : Unit {0} → Bool) → b ≡ true → f tt ≡ true → whenever b f false ≡ true
both_given b f e d = given_on b false f e ∙ d

-- ---- a cell

pub cell_facts : (c : Cell) → cell_fits c ≡ true → CellFacts c
unfolding cell_fits
cell_facts c e =
    let p = and_both _ _ e in
    let f = and_both (flag c.skip) _ p.0 in
    let g = and_both (flag c.skipfallback) (flag c.finalvote) f.1 in
    let q = and_both (none c.notar || none c.skip) _ p.1 in
    let r = and_both (in_order c.fallback1 c.fallback2) _ q.1 in
    let t = and_both (in_order c.fallback2 c.fallback3) _ r.1 in
    record {
      skip = leb-true c.skip 1 f.0;
      skipfallback = leb-true c.skipfallback 1 g.0;
      finalvote = leb-true c.finalvote 1 g.1;
      initial = q.0;
      second = r.0;
      third = t.0;
      apart = t.1;
    }

pub facts_cell : (c : Cell) → CellFacts c → cell_fits c ≡ true
unfolding cell_fits
facts_cell c f =
    both_and _ _
    (both_and (flag c.skip) _ (le-leb c.skip 1 f.skip)
    (both_and (flag c.skipfallback) (flag c.finalvote) (le-leb c.skipfallback 1 f.skipfallback) (le-leb c.finalvote 1 f.finalvote)))
    (both_and (none c.notar || none c.skip) _ f.initial
    (both_and (in_order c.fallback1 c.fallback2) _ f.second
    (both_and (in_order c.fallback2 c.fallback3) _ f.third f.apart)))

-- ---- a row

-- The test of a row, said of the row.
abbrev cell_ok : Row → ℕ → ℕ → Bool
cell_ok r used n = whenever (ltb n used) (λ _. cell_fits (get_or r.cells n no_cell)) (cell_blank (get_or r.cells n no_cell))

pub row_facts : (l : Ledger) (s : ℕ) → row_fits l s ≡ true → RowFacts l s (row_at l s)
unfolding row_fits cells_fit
row_facts l s e =
    let r : Row = row_at l s in
    let p = and_both (blocks_fit l s r.blocks) _ e in
    let z = and_both (flag r.timed_out && flag r.clash) (certificates_fit (table_of l) s r.certificates && (cells_fit l s l.count && own_fits l s)) p.1 in
    let y = and_both (certificates_fit (table_of l) s r.certificates) (cells_fit l s l.count && own_fits l s) z.1 in
    let q = and_both (cells_fit l s l.count) (own_fits l s) y.1 in
    record {
      blocks = p.0;
      timed_out = leb-true r.timed_out 1 (and_both (flag r.timed_out) (flag r.clash) z.0).0;
      clash = leb-true r.clash 1 (and_both (flag r.timed_out) (flag r.clash) z.0).1;
      certificates = y.0;
      cells = λ n a b. sym (given_on (ltb n l.count) (cell_blank (cell_at l s n)) (λ _. cell_fits (cell_at l s n)) (lt-ltb n l.count b)) ∙ all_at (places l) n (cell_ok r l.count) q.0 a;
      beyond = λ n a b. sym (given_off (ltb n l.count) (cell_blank (cell_at l s n)) (λ _. cell_fits (cell_at l s n)) (le-ltb n l.count (omega arith))) ∙ all_at (places l) n (cell_ok r l.count) q.0 a;
    }

-- What the own fallbacks lean on.
pub row_own : (l : Ledger) (s : ℕ) → row_fits l s ≡ true → own_fits l s ≡ true
unfolding row_fits
row_own l s e =
    let r : Row = row_at l s in
    let p = and_both (blocks_fit l s r.blocks) _ e in
    let z = and_both (flag r.timed_out && flag r.clash) (certificates_fit (table_of l) s r.certificates && (cells_fit l s l.count && own_fits l s)) p.1 in
    let y = and_both (certificates_fit (table_of l) s r.certificates) (cells_fit l s l.count && own_fits l s) z.1 in
    (and_both (cells_fit l s l.count) (own_fits l s) y.1).1

pub facts_row : (l : Ledger) (s : ℕ) → RowFacts l s (row_at l s) → own_fits l s ≡ true → row_fits l s ≡ true
unfolding row_fits cells_fit
facts_row l s f o =
    let r : Row = row_at l s in
    both_and (blocks_fit l s r.blocks) _ f.blocks
    (both_and (flag r.timed_out && flag r.clash) (certificates_fit (table_of l) s r.certificates && (cells_fit l s l.count && own_fits l s))
    (both_and (flag r.timed_out) (flag r.clash) (le-leb r.timed_out 1 f.timed_out) (le-leb r.clash 1 f.clash))
    (both_and (certificates_fit (table_of l) s r.certificates) (cells_fit l s l.count && own_fits l s) f.certificates
    (both_and (cells_fit l s l.count) (own_fits l s)
    (all_each (places l) (cell_ok r l.count) (λ n a.
    by_test (ltb n l.count)
    (λ t. given_on (ltb n l.count) (cell_blank (cell_at l s n)) (λ _. cell_fits (cell_at l s n)) t ∙ f.cells n a (ltb-true n l.count t))
    (λ t. given_off (ltb n l.count) (cell_blank (cell_at l s n)) (λ _. cell_fits (cell_at l s n)) t ∙ f.beyond n a (ltb-false n l.count t)))) o)))

-- ---- the head

abbrev stake_ok : Ledger → ℕ → Bool
stake_ok l n = ltb n l.count || none (stake_in l.stakes n)

pub head_facts : (l : Ledger) → head_fits l ≡ true → HeadFacts l
unfolding head_fits stakes_fit
head_facts l e =
    let z = and_both (eqb (places l) (places_for l.count)) _ e in
    let p = and_both (stakes_fit l.stakes l.count && eqb (total_to l.stakes l.count) l.total) _ z.1 in
    let q = and_both (stakes_fit l.stakes l.count) (eqb (total_to l.stakes l.count) l.total) p.0 in
    let sizes = and_both (leb 1 l.count && leb l.count most_nodes) _ q.0 in
    let size = and_both (leb 1 l.count) (leb l.count most_nodes) sizes.0 in
    let stakes = and_both (all_to l.count (λ n. leb 1 (stake_in l.stakes n))) (leb (total_to l.stakes l.count) most_stake) sizes.1 in
    let sum : total_to l.stakes l.count ≡ l.total = eqb-true (total_to l.stakes l.count) l.total q.1 in
    let r = and_both (leb l.own l.count && not (none l.genesis)) _ p.1 in
    let own = and_both (leb l.own l.count) (not (none l.genesis)) r.0 in
    let rest = and_both (all_to windows (λ w. flag (get_or l.armed w 0))) (all_to (places l) (stake_ok l)) r.1 in
    record {
      room = eqb-true (places l) (places_for l.count) z.0;
      some = leb-true 1 l.count size.0;
      few = leb-true l.count most_nodes size.1;
      staked = λ n h. leb-true 1 (stake_in l.stakes n) (all_at l.count n (λ n. leb 1 (stake_in l.stakes n)) stakes.0 h);
      sum = sum;
      small = subst (λ (t : ℕ). t ≤ most_stake) sum (leb-true (total_to l.stakes l.count) most_stake stakes.1);
      mine = leb-true l.own l.count own.0;
      genesis = not-true (none l.genesis) own.1;
      armed = λ w h. leb-true (get_or l.armed w 0) 1 (all_at windows w (λ w. flag (get_or l.armed w 0)) rest.0 h);
      unused = λ n a b.
          or_cases (ltb n l.count) (none (stake_in l.stakes n)) (all_at (places l) n (stake_ok l) rest.1 a)
          (λ t. true_not_false (ltb n l.count) t (le-ltb n l.count b)) (λ t. eqb-true (stake_in l.stakes n) 0 t);
    }

pub facts_head : (l : Ledger) → HeadFacts l → head_fits l ≡ true
unfolding head_fits stakes_fit
facts_head l f =
    both_and (eqb (places l) (places_for l.count)) _ (eq-eqb (places l) (places_for l.count) f.room)
    (both_and (stakes_fit l.stakes l.count && eqb (total_to l.stakes l.count) l.total) _
    (both_and (stakes_fit l.stakes l.count) (eqb (total_to l.stakes l.count) l.total)
    (both_and (leb 1 l.count && leb l.count most_nodes) _
    (both_and (leb 1 l.count) (leb l.count most_nodes) (le-leb 1 l.count f.some) (le-leb l.count most_nodes f.few))
    (both_and (all_to l.count (λ n. leb 1 (stake_in l.stakes n))) (leb (total_to l.stakes l.count) most_stake)
    (all_each l.count (λ n. leb 1 (stake_in l.stakes n)) (λ n h. le-leb 1 (stake_in l.stakes n) (f.staked n h)))
    (le-leb (total_to l.stakes l.count) most_stake (subst (λ (t : ℕ). t ≤ most_stake) (sym f.sum) f.small))))
    (eq-eqb (total_to l.stakes l.count) l.total f.sum))
    (both_and (leb l.own l.count && not (none l.genesis)) _
    (both_and (leb l.own l.count) (not (none l.genesis)) (le-leb l.own l.count f.mine) (ap not f.genesis))
    (both_and (all_to windows (λ w. flag (get_or l.armed w 0))) (all_to (places l) (stake_ok l))
    (all_each windows (λ w. flag (get_or l.armed w 0)) (λ w h. le-leb (get_or l.armed w 0) 1 (f.armed w h)))
    (all_each (places l) (stake_ok l) (λ n a.
    by_test (ltb n l.count) (λ t. or_left (ltb n l.count) (none (stake_in l.stakes n)) t)
    (λ t. or_right (ltb n l.count) (none (stake_in l.stakes n)) (eq-eqb (stake_in l.stakes n) 0 (f.unused n a (ltb-false n l.count t)))))))))

-- Every node has a place.
pub count_placed : (l : Ledger) → HeadFacts l → l.count ≤ places l
count_placed l f = omega (arith, f.room, nodes_placed l.count f.few)

-- ---- the card

card_fact : (l : Ledger) (s : ℕ) → card_fits l s ≡ true → (row_at l s).card ≡ recount l s
unfolding card_fits
card_fact l s e = same_card_lem (row_at l s).card (recount l s) e

fact_card : (l : Ledger) (s : ℕ) → (row_at l s).card ≡ recount l s → card_fits l s ≡ true
unfolding card_fits
fact_card l s e = ap (λ (t : Tally). same_card t (recount l s)) e ∙ card_same (recount l s)

-- ---- the whole

pub formed : (l : Ledger) → well_formed l ≡ true → Formed l
unfolding well_formed
formed l e =
    let p = given_both (head_fits l) _ e in
    let q = given_both (row_blank l) _ p.1 in
    let r = given_both (all_to last_slot (λ i. row_fits l (suc i))) _ q.1 in
    record {
      head = head_facts l p.0;
      blank = q.0;
      rows = λ s a b.
          let i : suc (s - 1) ≡ s = omega arith in
          subst (λ (t : ℕ). RowFacts l t (row_at l t)) i (row_facts l (suc (s - 1)) (all_at last_slot (s - 1) (λ i. row_fits l (suc i)) r.0 (omega arith)));
      own = λ s a b.
          let i : suc (s - 1) ≡ s = omega arith in
          subst (λ (t : ℕ). own_fits l t ≡ true) i (row_own l (suc (s - 1)) (all_at last_slot (s - 1) (λ i. row_fits l (suc i)) r.0 (omega arith)));
      cards = λ s a b.
          let i : suc (s - 1) ≡ s = omega arith in
          subst (λ (t : ℕ). (row_at l t).card ≡ recount l t) i (card_fact l (suc (s - 1)) (all_at last_slot (s - 1) (λ i. card_fits l (suc i)) r.1 (omega arith)));
    }

pub well_formed_lem : (l : Ledger) → Formed l → well_formed l ≡ true
unfolding well_formed
well_formed_lem l f =
    both_given (head_fits l) _ (facts_head l f.head)
    (both_given (row_blank l) _ f.blank
    (both_given (all_to last_slot (λ i. row_fits l (suc i))) _
    (all_each last_slot (λ i. row_fits l (suc i)) (λ i h. facts_row l (suc i) (f.rows (suc i) (omega arith) (omega arith)) (f.own (suc i) (omega arith) (omega arith))))
    (all_each last_slot (λ i. card_fits l (suc i)) (λ i h. fact_card l (suc i) (f.cards (suc i) (omega arith) (omega arith))))))
