-- The sums of one pass: none, one node more, a blank cell, a plain one, no wrapping; and what they say of a slot's cells and card.
-- Assumes nothing.
use mathlib.Core.Path.{◌≡◌, refl, sym, ap, ◌∙◌}
use mathlib.Core.Bool.{Bool, true, false, not, ◌&&◌, ◌||◌}
use Prim.Native.Nat.{ℕ, ◌+◌, ◌<◌}
use native.Mathlib.Omega.{arith}
use lib.Dec.{eqb, ltb}
use lib.Bits.{bit_or}
use borrow.Author.Tests.{eq-eqb, eqb-true, ne_eqb, lt-ltb}
use Rattle.rulebook.specs.declared.Cell.{Cell}
use Rattle.rulebook.specs.declared.Tally.{Tally}
use Rattle.rulebook.specs.declared.Who.TheVariants as who
use Rattle.rulebook.specs.Tools.{part, whenever, all_to}
use Rattle.rulebook.specs.Weights.{stake_in, weight}
use Rattle.rulebook.specs.Ledger.{Ledger, none, no_cell, no_card, places, row_at, cell_at}
use Rattle.rulebook.specs.Pool.{counts, weigh}
use Rattle.rulebook.specs.Cards.{most, leader, recount, same_card}
use Rattle.rulebook.specs.WellFormed.{flag, in_order, cell_fits, cell_blank, cells_fit, card_fits}
use Rattle.rule_laws.proofs.ToolLaws.{given_on, and_both, by_test, part_on, part_off, all_none, all_more, all_same, all_at, all_each}
use Rattle.rule_laws.proofs.WeightLaws.{weight_none, weight_same, weight_more, weight_room}
use Rattle.recounting.proofs.Using.{same_card_lem}
use Rattle.record.specs.Tabled.{Tabled}
use Rattle.blank_rows.proofs.Words.{or_none}
use Rattle.blank_rows.proofs.Rows.{unused_blank}
use Rattle.audit.specs.declared.Sums.{Sums}
use Rattle.audit.specs.Summing.{plain, votes_for, sums_of, no_sums, with_cell, sums_to, Room}
use Rattle.audit.proofs.Fitting.{fits_none}

and_true : (a : Bool) → (a && true) ≡ a
and_true true = refl
and_true false = refl

or_true : (a : Bool) → (a || true) ≡ true
or_true true = refl
or_true false = refl

and_false : (a : Bool) → (a && false) ≡ false
and_false true = refl
and_false false = refl

and_more : (a b c : Bool) → (a && (b && c)) ≡ ((a && b) && c)
and_more true b c = refl
and_more false b c = refl

plus_none : (x : ℕ) → x + 0 ≡ x
plus_none x = omega arith

none_more : (n w : ℕ) (t : Bool) → t ≡ false → n ≡ n + part t w
none_more n w t e = omega (arith, part_off t w e)

-- ---- the loop

module _ (l : Ledger) (s b : ℕ) where
  none_yet : (p : Cell → Bool) → 0 ≡ weight l.stakes 0 (λ i. p (cell_at l s i))
  none_yet p = sym (weight_none l.stakes 0 (λ i. p (cell_at l s i)) (λ i h. absurd (omega arith)))

  pub sums_none : no_sums ≡ sums_to l s b 0
  unfolding sums_to
  sums_none =
      λ i. sums_of (sym (all_none (λ j. cell_fits (cell_at l s j))) i) (none_yet (counts who.Skip) i) (none_yet (counts who.Final) i)
      (none_yet (counts who.SkipOrFallback) i) (none_yet (counts who.AnyNotar) i) (none_yet (votes_for b) i)

  more : (n : ℕ) (p : Cell → Bool) → weight l.stakes (n + 1) (λ i. p (cell_at l s i)) ≡ weight l.stakes n (λ i. p (cell_at l s i)) + part (p (cell_at l s n)) (stake_in l.stakes n)
  more n p = weight_more l.stakes n (λ i. p (cell_at l s i)) (p (cell_at l s n)) refl

  -- one node further
  pub sums_more : (n : ℕ) → with_cell (sums_to l s b n) (cell_at l s n) (stake_in l.stakes n) b ≡ sums_to l s b (n + 1)
  unfolding sums_to with_cell
  sums_more n =
      sym (λ i. sums_of (all_more n (λ j. cell_fits (cell_at l s j)) i) (more n (counts who.Skip) i) (more n (counts who.Final) i)
      (more n (counts who.SkipOrFallback) i) (more n (counts who.AnyNotar) i) (more n (votes_for b) i))

  -- within 64 bits
  pub sums_room : Tabled l → (n : ℕ) → n < l.count → Room (sums_to l s b n) (stake_in l.stakes n)
  unfolding sums_to
  sums_room k n h =
      record {
        skip = omega (arith, weight_room l.stakes l.count n (λ i. counts who.Skip (cell_at l s i)) h, k.sum, k.light);
        finals = omega (arith, weight_room l.stakes l.count n (λ i. counts who.Final (cell_at l s i)) h, k.sum, k.light);
        skipcert = omega (arith, weight_room l.stakes l.count n (λ i. counts who.SkipOrFallback (cell_at l s i)) h, k.sum, k.light);
        any = omega (arith, weight_room l.stakes l.count n (λ i. counts who.AnyNotar (cell_at l s i)) h, k.sum, k.light);
        lead = omega (arith, weight_room l.stakes l.count n (λ i. votes_for b (cell_at l s i)) h, k.sum, k.light);
      }

  -- ---- what the sums are

  abbrev done : Sums
  done = sums_to l s b l.count

  pub summed_any : (x : Sums) → x ≡ done → x.any.0 ≡ weigh l s who.AnyNotar
  unfolding sums_to weigh
  summed_any x e = ap (λ (y : Sums). y.any.0) e

  for_block : (b ≡ 0 → ⊥) → (c : Cell) → votes_for b c ≡ eqb c.notar b
  unfolding votes_for
  for_block ne c =
      by_test (eqb c.notar b)
      (λ t. ap (λ (y : Bool). not y && eqb c.notar b) (ne_eqb c.notar 0 (λ z. ne (sym (eqb-true c.notar b t) ∙ z))))
      (λ t. ap (λ (y : Bool). not (none c.notar) && y) t ∙ and_false (not (none c.notar)) ∙ sym t)

  pub summed_lead : (x : Sums) → x ≡ done → (b ≡ 0 → ⊥) → x.lead.0 ≡ weigh l s (who.Notar b)
  unfolding sums_to weigh counts
  summed_lead x e ne =
      ap (λ (y : Sums). y.lead.0) e
      ∙ weight_same l.stakes l.count (λ i. votes_for b (cell_at l s i)) (λ i. eqb (cell_at l s i).notar b) (λ i j. for_block ne (cell_at l s i))

  -- every place has a node, so every cell is tested as one that is used
  pub cells_tested : places l ≡ l.count → done.fits ≡ cells_fit l s l.count
  unfolding sums_to cells_fit
  cells_tested full =
      all_same l.count (λ i. cell_fits (cell_at l s i)) (λ i. whenever (ltb i l.count) (λ _. cell_fits (cell_at l s i)) (cell_blank (cell_at l s i)))
      (λ i h. sym (given_on (ltb i l.count) (cell_blank (cell_at l s i)) (λ _. cell_fits (cell_at l s i)) (lt-ltb i l.count h)))
      ∙ ap (λ (k : ℕ). all_to k (λ i. whenever (ltb i l.count) (λ _. cell_fits (cell_at l s i)) (cell_blank (cell_at l s i)))) (sym full)

-- ---- a blank cell

blank_cell : (c : Cell) → cell_blank c ≡ true → c ≡ no_cell
unfolding cell_blank
blank_cell c e =
    let p = and_both (none c.notar && none c.skip) _ e in
    let q = and_both (none c.notar) (none c.skip) p.0 in
    let r = and_both (none c.fallback1 && (none c.fallback2 && none c.fallback3)) _ p.1 in
    let t = and_both (none c.fallback1) _ r.0 in
    let u = and_both (none c.fallback2) (none c.fallback3) t.1 in
    let v = and_both (none c.skipfallback) (none c.finalvote) r.1 in
    λ i. record {
      notar = eqb-true c.notar 0 q.0 i;
      skip = eqb-true c.skip 0 q.1 i;
      fallback1 = eqb-true c.fallback1 0 t.0 i;
      fallback2 = eqb-true c.fallback2 0 u.0 i;
      fallback3 = eqb-true c.fallback3 0 u.1 i;
      skipfallback = eqb-true c.skipfallback 0 v.0 i;
      finalvote = eqb-true c.finalvote 0 v.1 i;
    }

none_adds : (x : Sums) (w b : ℕ) → with_cell x no_cell w b ≡ x
unfolding with_cell cell_fits in_order counts votes_for part
none_adds x w b =
    λ i. sums_of (and_true x.fits i) (plus_none x.skip.0 i) (plus_none x.finals.0 i) (plus_none x.skipcert.0 i) (plus_none x.any.0 i) (plus_none x.lead.0 i)

-- It adds nothing and fits.
pub blank_adds : (x : Sums) (c d : Cell) (w b : ℕ) → c ≡ d → cell_blank c ≡ true → x ≡ with_cell x d w b
blank_adds x c d w b e t = sym (ap (λ (k : Cell). with_cell x k w b) (sym e ∙ blank_cell c t) ∙ none_adds x w b)

-- ---- a plain cell

-- by its notar vote, and three words or-ed together
pub words_plain : (c : Cell) → (c.notar ≡ 0 → ⊥) → bit_or c.skip (bit_or c.skipfallback c.fallback3) ≡ 0 → plain c ≡ true
unfolding plain
words_plain c ne e =
    (λ i. not (ne_eqb c.notar 0 ne i) && sym (or_none c.skip (bit_or c.skipfallback c.fallback3) ∙ ap (λ (t : Bool). none c.skip && t) (or_none c.skipfallback c.fallback3)) i)
    ∙ eq-eqb (bit_or c.skip (bit_or c.skipfallback c.fallback3)) 0 e

module _ (c : Cell) (is : plain c ≡ true) where
  plain_words : (not (none c.notar) ≡ true) × (c.skip ≡ 0) × (c.skipfallback ≡ 0) × (c.fallback3 ≡ 0)
  unfolding plain
  plain_words =
      let o = and_both (not (none c.notar)) _ is in
      let p = and_both (none c.skip) _ o.1 in
      let q = and_both (none c.skipfallback) (none c.fallback3) p.1 in
      (o.0, eqb-true c.skip 0 p.0, eqb-true c.skipfallback 0 q.0, eqb-true c.fallback3 0 q.1)

  plain_fits : cell_fits c ≡ (flag c.finalvote && in_order c.fallback1 c.fallback2)
  unfolding cell_fits in_order
  plain_fits =
      let z = plain_words in
      (λ i. (flag (z.1 i) && (flag (z.2 i) && flag c.finalvote))
      && ((none c.notar || none (z.1 i))
      && (in_order c.fallback1 c.fallback2
      && (in_order c.fallback2 (z.3 i) && (none (z.3 i) || not (eqb c.fallback1 (z.3 i)))))))
      ∙ (λ i. flag c.finalvote && (or_true (none c.notar) i && and_true (in_order c.fallback1 c.fallback2) i))

  -- neither a skip nor a skip-fallback
  plain_skip : counts who.Skip c ≡ false
  unfolding counts
  plain_skip = ap (λ (k : ℕ). not (none k)) plain_words.1

  plain_skipcert : counts who.SkipOrFallback c ≡ false
  unfolding counts
  plain_skipcert = λ i. not (none (plain_words.1 i)) || not (none (plain_words.2 i))

  -- a notar vote, for b where b is its block
  plain_any : counts who.AnyNotar c ≡ true
  unfolding counts
  plain_any = plain_words.0

  plain_lead : (b : ℕ) → votes_for b c ≡ eqb c.notar b
  unfolding votes_for
  plain_lead b = ap (λ (t : Bool). t && eqb c.notar b) plain_words.0

  pub plain_adds : (x : Sums) (w b : ℕ) (second : Bool) (finals lead : ℕ) → second ≡ in_order c.fallback1 c.fallback2 → finals ≡ x.finals.0 + part (counts who.Final c) w
      → lead ≡ x.lead.0 + part (eqb c.notar b) w
      → sums_of (x.fits && (flag c.finalvote && second)) x.skip.0 finals x.skipcert.0 (x.any.0 + w) lead ≡ with_cell x c w b
  unfolding with_cell
  plain_adds x w b second finals lead e f l =
      λ i. sums_of (x.fits && (ap (λ (t : Bool). flag c.finalvote && t) e ∙ sym plain_fits) i) (none_more x.skip.0 w (counts who.Skip c) plain_skip i) (f i)
      (none_more x.skipcert.0 w (counts who.SkipOrFallback c) plain_skipcert i) (x.any.0 + sym (part_on (counts who.AnyNotar c) w plain_any) i) ((l ∙ ap (λ (t : Bool). x.lead.0 + part t w) (sym (plain_lead b))) i)

-- ---- a row without votes

module _ (l : Ledger) (s b : ℕ) (blank : (i : ℕ) → i < l.count → cell_at l s i ≡ no_cell) where
  uncounted : (p : Cell → Bool) → p no_cell ≡ false → weight l.stakes l.count (λ i. p (cell_at l s i)) ≡ 0
  uncounted p f = weight_none l.stakes l.count (λ i. p (cell_at l s i)) (λ i h. ap p (blank i h) ∙ f)

  blank_sums : sums_to l s b l.count ≡ no_sums
  unfolding sums_to cell_fits in_order counts votes_for
  blank_sums =
      λ i. sums_of (all_each l.count (λ j. cell_fits (cell_at l s j)) (λ j h. ap cell_fits (blank j h)) i) (uncounted (counts who.Skip) refl i) (uncounted (counts who.Final) refl i)
      (uncounted (counts who.SkipOrFallback) refl i) (uncounted (counts who.AnyNotar) refl i) (uncounted (votes_for b) refl i)

-- ---- the whole test

module _ (l : Ledger) (s : ℕ) (full : places l ≡ l.count) (c : Tally) (x : Sums) (ec : c ≡ (row_at l s).card) (ex : x ≡ sums_to l s c.leader l.count) where
  abbrev same : Bool
  same = eqb c.skip.0 x.skip.0 && (eqb c.finals.0 x.finals.0 && eqb c.skipcert.0 x.skipcert.0)

  abbrev leading : Bool
  leading = eqb c.leader (leader l s) && eqb c.weight.0 (most l s)

  card_is : card_fits l s ≡ (same && leading)
  unfolding card_fits same_card recount sums_to weigh
  card_is =
      ap (λ (t : Tally). same_card t (recount l s)) (sym ec)
      ∙ ap (λ (y : Sums). (eqb c.skip.0 y.skip.0 && (eqb c.finals.0 y.finals.0 && eqb c.skipcert.0 y.skipcert.0)) && leading) (sym ex)

  votes_are : (cells_fit l s l.count && card_fits l s) ≡ ((x.fits && same) && leading)
  votes_are =
      (λ i. (sym (cells_tested l s c.leader full) ∙ ap (λ (y : Sums). y.fits) (sym ex)) i && card_is i) ∙ and_more x.fits same leading

  pub votes_off : (x.fits && same) ≡ false → false ≡ (cells_fit l s l.count && card_fits l s)
  votes_off e = sym (votes_are ∙ ap (λ (t : Bool). t && leading) e)

  pub votes_on_lem : (x.fits && same) ≡ true → leading ≡ (cells_fit l s l.count && card_fits l s)
  votes_on_lem e = sym (votes_are ∙ ap (λ (t : Bool). t && leading) e)

-- No card and no cell: both tests pass.
pub votes_blank : (l : Ledger) (s : ℕ) → places l ≡ l.count → (c : Tally) → c ≡ (row_at l s).card → same_card c no_card ≡ true → cells_fit l s 0 ≡ true
    → true ≡ (cells_fit l s l.count && card_fits l s)
votes_blank l s full c ec e f =
    let each : (i : ℕ) → i < l.count → cell_at l s i ≡ no_cell =
    (λ i h. blank_cell (cell_at l s i) (all_at (places l) i (λ n. cell_blank (cell_at l s n)) (unused_blank l s ∙ f) (omega arith))) in
    let b = sym (blank_sums l s 0 each) in
    fits_none l s 0 0 0 (summed_any l s 0 no_sums b) refl ∙ votes_on_lem l s full no_card no_sums (sym (same_card_lem c no_card e) ∙ ec) b refl
