-- Rule D's weights only grow, and so what the own fallbacks lean on stays; and with three of them there is no fourth.
use mathlib.Core.Path.{◌≡◌, refl, sym, ap, ◌∙◌, subst}
use mathlib.Core.Bool.{Bool, true, false, not, ◌&&◌, ◌||◌}
use mathlib.Core.List.{List}
use Prim.Native.Nat.{ℕ, ◌<◌, ◌≤◌}
use native.Mathlib.Omega.{arith}
use lib.ListN.{length, get_or, set}
use lib.Dec.{eqb}
use borrow.Author.Tests.{not-true, eqb-true, eqb-false}
use Rattle.rulebook.specs.declared.Cell.{Cell}
use Rattle.rulebook.specs.declared.VoteKind.{VoteKind}
use Rattle.rulebook.specs.declared.VoteKind.TheVariants as vote
use Rattle.rulebook.specs.declared.Place.TheVariants.{Free}
use Rattle.rulebook.specs.Weights.{weight, d_weights, last_slot}
use Rattle.rulebook.specs.Ledger.{places, Ledger, Row, none, no_cell, no_initial, row_at, cell_at, own_cell, put_row, put_armed}
use Rattle.rulebook.specs.Pool.{has_fallback, counts, weigh}
use Rattle.rulebook.specs.Cards.{tallied, change_of}
use Rattle.rulebook.specs.Votes.{place_of, with_vote, fill_fallback, store_vote}
use Rattle.rulebook.specs.Rules.{fallback_weights}
use Rattle.rulebook.specs.WellFormed.{Shaped, in_order, backs, own_fits}
use Rattle.rule_laws.proofs.ToolLaws.{and_both, both_and, or_left, or_right, or_cases, or_none, by_test, true_not_false}
use Rattle.rule_laws.proofs.WeightLaws.{weight_mono}
use Rattle.rule_laws.proofs.FourthLaws.{weights_more, Counted, Weighty, no_four_blocks}
use Rattle.settling.specs.Facts.{CellFacts, Grown, SameTable}
use Rattle.settling.specs.Steps.{weighed}
use Rattle.settling.proofs.Places.{row_cases, cell_cases}
use Rattle.recounting.proofs.Storing.{place_free}

-- ---- cells grow

pub grown_same : (c : Cell) → Grown c c
grown_same c = record { notar = λ b m t. t; skip = λ t. t }

pub grown_is : (c d : Cell) → d ≡ c → Grown c d
grown_is c d e = subst (Grown c) (sym e) (grown_same c)

fill_grows : (x y z : Bool) (c : Cell) (b : ℕ) → Grown c (fill_fallback x y z c b)
unfolding fill_fallback
fill_grows true y z c b = record { notar = λ b m t. t; skip = λ t. t }
fill_grows false true z c b = record { notar = λ b m t. t; skip = λ t. t }
fill_grows false false true c b = record { notar = λ b m t. t; skip = λ t. t }
fill_grows false false false c b = grown_same c

-- A vote into a free place.
pub vote_grows : (c : Cell) (k : VoteKind) (x : ℕ) → place_of c k x ≡ Free → Grown c (with_vote c k x)
unfolding place_of with_vote
vote_grows c vote.Notar x e =
    let p = place_free (eqb c.notar x) (no_initial c) e in
    let z = (and_both (none c.notar) (none c.skip) p.1).0 in
    record {
      notar = λ b m t. absurd (eqb-false b 0 m (sym (eqb-true c.notar b t) ∙ eqb-true c.notar 0 z));
      skip = λ t. t;
    }
vote_grows c vote.NotarFallback x e = fill_grows (none c.fallback1) (none c.fallback2) (none c.fallback3) c x
vote_grows c vote.Skip x e = record { notar = λ b m t. t; skip = λ t. refl }
vote_grows c vote.SkipFallback x e = record { notar = λ b m t. t; skip = λ t. t }
vote_grows c vote.Final x e = record { notar = λ b m t. t; skip = λ t. t }
vote_grows c vote.Other x e = grown_same c

-- ---- weights grow

weight_grow : (ws vs : List ℕ) (n k : ℕ) (p q : ℕ → Bool) → vs ≡ ws → k ≡ n → ((i : ℕ) → i < n → p i ≡ true → q i ≡ true) → weight ws n p ≤ weight vs k q
weight_grow ws vs n k p q e d f = rw (e, d) (weight_mono ws n p q f)

module _ (l m : Ledger) (same : SameTable l m) (s : ℕ) (grown : (n : ℕ) → n < l.count → Grown (cell_at l s n) (cell_at m s n)) where
  pub weights_grow : (b : ℕ) → none b ≡ false → fallback_weights l s b ≡ true → fallback_weights m s b ≡ true
  unfolding fallback_weights weigh counts
  weights_grow b nb e =
      let t : ℕ = l.total in
      let x : ℕ = weight l.stakes l.count (λ n. eqb (cell_at l s n).notar b) in
      let y : ℕ = weight l.stakes l.count (λ n. not (none (cell_at l s n).skip)) in
      let u : ℕ = weight m.stakes m.count (λ n. eqb (cell_at m s n).notar b) in
      let v : ℕ = weight m.stakes m.count (λ n. not (none (cell_at m s n).skip)) in
      let gx : x ≤ u = weight_grow l.stakes m.stakes l.count m.count (λ n. eqb (cell_at l s n).notar b) (λ n. eqb (cell_at m s n).notar b)
      same.stakes same.count (λ i h t. (grown i h).notar b nb t) in
      let gy : y ≤ v = weight_grow l.stakes m.stakes l.count m.count (λ n. not (none (cell_at l s n).skip)) (λ n. not (none (cell_at m s n).skip))
      same.stakes same.count (λ i h t. ap not ((grown i h).skip (not-true (none (cell_at l s i).skip) t))) in
      subst (λ (j : ℕ). d_weights j u v ≡ true) (sym same.total) (weights_more t x y u v gx gy e)

  pub backs_grow : (b : ℕ) → backs l s b ≡ true → backs m s b ≡ true
  unfolding backs
  backs_grow b e =
      by_test (none b) (λ t. or_left (none b) (fallback_weights m s b) t)
      (λ t. or_right (none b) (fallback_weights m s b)
      (weights_grow b t (or_cases (none b) (fallback_weights l s b) e (λ q. true_not_false (none b) q t) (λ q. q))))

-- ---- the own fallbacks

-- All three places of a cell.
abbrev all_three : (ℕ → Bool) → Cell → Bool
all_three p c = p c.fallback1 && (p c.fallback2 && p c.fallback3)

three_mono : (p q : ℕ → Bool) (c : Cell) → ((b : ℕ) → p b ≡ true → q b ≡ true) → all_three p c ≡ true → all_three q c ≡ true
three_mono p q c f e =
    let a = and_both (p c.fallback1) (p c.fallback2 && p c.fallback3) e in
    let b = and_both (p c.fallback2) (p c.fallback3) a.1 in
    both_and (q c.fallback1) (q c.fallback2 && q c.fallback3) (f c.fallback1 a.0)
    (both_and (q c.fallback2) (q c.fallback3) (f c.fallback2 b.0) (f c.fallback3 b.1))

three_fill : (p : ℕ → Bool) (x y z : Bool) (c : Cell) (b : ℕ) → p b ≡ true → all_three p c ≡ true → all_three p (fill_fallback x y z c b) ≡ true
unfolding fill_fallback
three_fill p true y z c b h e = both_and (p b) (p c.fallback2 && p c.fallback3) h (and_both (p c.fallback1) (p c.fallback2 && p c.fallback3) e).1
three_fill p false true z c b h e =
    let a = and_both (p c.fallback1) (p c.fallback2 && p c.fallback3) e in
    both_and (p c.fallback1) (p b && p c.fallback3) a.0 (both_and (p b) (p c.fallback3) h (and_both (p c.fallback2) (p c.fallback3) a.1).1)
three_fill p false false true c b h e =
    let a = and_both (p c.fallback1) (p c.fallback2 && p c.fallback3) e in
    both_and (p c.fallback1) (p c.fallback2 && p b) a.0 (both_and (p c.fallback2) (p b) (and_both (p c.fallback2) (p c.fallback3) a.1).0 h)
three_fill p false false false c b h e = e

-- A fallback of which the test holds, or any other vote.
three_vote : (p : ℕ → Bool) (c : Cell) (k : VoteKind) (x : ℕ) → (k ≡ vote.NotarFallback → p x ≡ true) → all_three p c ≡ true → all_three p (with_vote c k x) ≡ true
unfolding with_vote
three_vote p c vote.Notar x h e = e
three_vote p c vote.NotarFallback x h e = three_fill p (none c.fallback1) (none c.fallback2) (none c.fallback3) c x (h refl) e
three_vote p c vote.Skip x h e = e
three_vote p c vote.SkipFallback x h e = e
three_vote p c vote.Final x h e = e
three_vote p c vote.Other x h e = e

-- Where cells grow and the own fallbacks stay.
pub own_grow : (l m : Ledger) → SameTable l m → (s : ℕ) → ((n : ℕ) → n < l.count → Grown (cell_at l s n) (cell_at m s n)) → own_cell m s ≡ own_cell l s
    → own_fits l s ≡ true → own_fits m s ≡ true
unfolding own_fits
own_grow l m same s grown e f =
    subst (λ (c : Cell). all_three (backs m s) c ≡ true) (sym e) (three_mono (backs l s) (backs m s) (own_cell l s) (backs_grow l m same s grown) f)

-- Where all cells stay.
pub own_cells : (l m : Ledger) → SameTable l m → (s : ℕ) → ((n : ℕ) → cell_at m s n ≡ cell_at l s n) → own_fits l s ≡ true → own_fits m s ≡ true
own_cells l m same s cells f =
    own_grow l m same s (λ n h. grown_is (cell_at l s n) (cell_at m s n) (cells n))
    (ap (λ (i : ℕ). cell_at m s i) same.own ∙ cells l.own) f

pub same_table : (l : Ledger) → SameTable l l
same_table l = record { own = refl; count = refl; total = refl; stakes = refl }

-- Weights and own fallbacks after a row with the same cells.
module _ (l : Ledger) (s : ℕ) (r : Row) (h : s < length l.rows) (e : r.cells ≡ (row_at l s).cells) where
  pub row_cells : (t n : ℕ) → cell_at (put_row l s r) t n ≡ cell_at l t n
  row_cells t n =
      row_cases l s r (λ i x. get_or x.cells n no_cell ≡ cell_at l i n) t h (ap (λ (cs : List Cell). get_or cs n no_cell) e) (λ _. refl)

  pub own_row : (t : ℕ) → own_fits l t ≡ true → own_fits (put_row l s r) t ≡ true
  own_row t f = own_cells l (put_row l s r) (record { own = refl; count = refl; total = refl; stakes = refl }) t (row_cells t) f

  pub weights_row : (t b : ℕ) → none b ≡ false → fallback_weights l t b ≡ true → fallback_weights (put_row l s r) t b ≡ true
  weights_row t b nb f =
      weights_grow l (put_row l s r) (record { own = refl; count = refl; total = refl; stakes = refl }) t
      (λ n _. grown_is (cell_at l t n) (cell_at (put_row l s r) t n) (row_cells t n)) b nb f

-- An armed window weighs nothing.
pub weights_armed : (l : Ledger) (s t b : ℕ) → none b ≡ false → fallback_weights l t b ≡ true → fallback_weights (put_armed l s) t b ≡ true
weights_armed l s t b nb f =
    weights_grow l (put_armed l s) (record { own = refl; count = refl; total = refl; stakes = refl }) t (λ n _. grown_same (cell_at l t n)) b nb f

-- ---- after a vote into a free place

-- A fallback that is cast has its weights.
weighed_backs : (l : Ledger) (s : ℕ) (k : VoteKind) (x : ℕ) → k ≡ vote.NotarFallback → weighed l s k x ≡ true → backs l s x ≡ true
unfolding backs weighed
weighed_backs l s k x z y = or_right (none x) (fallback_weights l s x) (subst (λ (j : VoteKind). weighed l s j x ≡ true) z y)

module _ (l : Ledger) (h : Shaped (places l) l) (s n : ℕ) (k : VoteKind) (x : ℕ) (b : s ≤ last_slot) (low : n < places l) (e : place_of (cell_at l s n) k x ≡ Free) where
  abbrev stored : Ledger
  stored = store_vote l s n k x

  stored_table : SameTable l stored
  unfolding store_vote
  stored_table = record { own = refl; count = refl; total = refl; stakes = refl }

  -- What a cell reads afterwards.
  pub stored_cases : (P : ℕ → ℕ → Cell → Type 0) → P s n (with_vote (cell_at l s n) k x) → ((t i : ℕ) → P t i (cell_at l t i)) → (t i : ℕ) → P t i (cell_at stored t i)
  unfolding store_vote
  stored_cases P p q t i =
      let r : Row = row_at l s in
      let c : Cell = with_vote (cell_at l s n) k x in
      row_cases l s (record { blocks = r.blocks; timed_out = r.timed_out; final = r.final; clash = r.clash; card = tallied r.card (change_of l s n k x); certificates = r.certificates; cells = set r.cells n c }) (λ j y. P j i (get_or y.cells i no_cell)) t
      (omega (arith, h.rows))
      (cell_cases (λ j y. P s j y) r n c i (omega (arith, h.cells s (omega arith))) p (λ _. q s i)) (λ _. q t i)

  stored_grows : (t i : ℕ) → Grown (cell_at l t i) (cell_at stored t i)
  stored_grows t i = stored_cases (λ t i c. Grown (cell_at l t i) c) (vote_grows (cell_at l s n) k x e) (λ t i. grown_same (cell_at l t i)) t i

  pub weights_stored : (t d : ℕ) → none d ≡ false → fallback_weights l t d ≡ true → fallback_weights stored t d ≡ true
  weights_stored t d nd f = weights_grow l stored stored_table t (λ i _. stored_grows t i) d nd f

  -- The own fallbacks lean on their weights, a new one too.
  pub own_stored : (n ≡ l.own → weighed l s k x ≡ true) → ((t : ℕ) → own_fits l t ≡ true → own_fits stored t ≡ true)
  unfolding own_fits
  own_stored w t f =
      let grow = backs_grow l stored stored_table t (λ i _. stored_grows t i) in
      let now : all_three (backs stored t) (own_cell l t) ≡ true = three_mono (backs l t) (backs stored t) (own_cell l t) grow f in
      let mine : own_cell stored t ≡ cell_at stored t l.own = ap (λ (i : ℕ). cell_at stored t i) stored_table.own in
      subst (λ (c : Cell). all_three (backs stored t) c ≡ true) (sym mine)
      (stored_cases (λ j i c. j ≡ t → i ≡ l.own → all_three (backs stored t) c ≡ true)
      (λ p q. three_vote (backs stored t) (cell_at l s n) k x
      (λ z. grow x (subst (λ (j : ℕ). backs l j x ≡ true) p (weighed_backs l s k x z (w q))))
      (subst (λ (c : Cell). all_three (backs stored t) c ≡ true) (ap (λ (i : ℕ). cell_at l t i) (sym q) ∙ ap (λ (j : ℕ). cell_at l j n) (sym p)) now))
      (λ j i p q. subst (λ (c : Cell). all_three (backs stored t) c ≡ true) (ap (λ (y : ℕ). cell_at l t y) (sym q) ∙ ap (λ (y : ℕ). cell_at l y i) (sym p)) now)
      t l.own refl refl)

-- ---- no fourth

-- A later place that is filled: the earlier is filled too, with another block.
order_parts : (x y : ℕ) → in_order x y ≡ true → none y ≡ false → (none x ≡ false) × (eqb x y ≡ false)
unfolding in_order
order_parts x y e t =
    or_cases (none y) (not (none x) && not (eqb x y)) e (λ q. true_not_false (none y) q t)
    (λ q. let p = and_both (not (none x)) (not (eqb x y)) q in (not-true (none x) p.0, not-true (eqb x y) p.1))

-- Where a block that is not among the own fallbacks has rule D's weights, the third place is free: so the rule need not test it.
pub third_free : (l : Ledger) (s b : ℕ) → Counted l s → CellFacts (own_cell l s) → own_fits l s ≡ true → Weighty l s b → has_fallback b (own_cell l s) ≡ false
    → none (own_cell l s).fallback3 ≡ true
unfolding own_fits backs has_fallback
third_free l s b h k f w new =
    let c : Cell = own_cell l s in
    let f1 : ℕ = c.fallback1 in
    let f2 : ℕ = c.fallback2 in
    let f3 : ℕ = c.fallback3 in
    let weighty : (d : ℕ) → none d ≡ false → (none d || fallback_weights l s d) ≡ true → Weighty l s d =
    λ d nd e. record { block = nd; weights = or_cases (none d) (fallback_weights l s d) e (λ r. true_not_false (none d) r nd) (λ r. r) } in
    by_test (none f3) (λ t. t)
    (λ z.
    let y = order_parts f2 f3 k.third z in
    let x = order_parts f1 f2 k.second y.0 in
    let far : eqb f1 f3 ≡ false = or_cases (none f3) (not (eqb f1 f3)) k.apart (λ q. true_not_false (none f3) q z) (λ q. not-true (eqb f1 f3) q) in
    let out = or_none (eqb f1 b) (eqb f2 b || eqb f3 b) new in
    let out' = or_none (eqb f2 b) (eqb f3 b) out.1 in
    let p = and_both (none f1 || fallback_weights l s f1) ((none f2 || fallback_weights l s f2) && (none f3 || fallback_weights l s f3)) f in
    let q = and_both (none f2 || fallback_weights l s f2) (none f3 || fallback_weights l s f3) p.1 in
    absurd (no_four_blocks l s h f1 f2 f3 b x.1 far out.0 y.1 out'.0 out'.1
    (weighty f1 x.0 p.0) (weighty f2 y.0 q.0) (weighty f3 z q.1) w))
