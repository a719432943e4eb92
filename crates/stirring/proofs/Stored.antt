-- A vote that opens nothing, or stirs nothing, leaves it calm behind its slot. Assumes nothing.
use mathlib.Core.Path.{◌≡◌, refl, sym, ap, ◌∙◌, subst}
use mathlib.Core.Bool.{Bool, true, false, not, ◌&&◌, ◌||◌}
use mathlib.Core.List.{List}
use Prim.Native.Nat.{ℕ, zero, suc, ◌+◌, ◌≤◌, ◌<◌}
use native.Mathlib.Omega.{arith}
use lib.ListN.{length, get_or, set}
use lib.Seq.{get_or-set_other}
use lib.Dec.{eqb}
use borrow.Author.Tests.{eqb-true, eqb-false, eq-eqb, ne_eqb, not-true, not-false}
use Rattle.rulebook.specs.declared.Cell.{Cell}
use Rattle.rulebook.specs.declared.CertificateKind.{CertificateKind}
use Rattle.rulebook.specs.declared.CertificateKind.TheVariants as certificate
use Rattle.rulebook.specs.declared.Place.TheVariants.{Free}
use Rattle.rulebook.specs.declared.VoteKind.{VoteKind}
use Rattle.rulebook.specs.declared.VoteKind.TheVariants as vote
use Rattle.rulebook.specs.declared.Who.{Who}
use Rattle.rulebook.specs.declared.Who.TheVariants as who
use Rattle.rulebook.specs.Weights.{last_slot, is_first, reaches, weight}
use Rattle.rulebook.specs.Ledger.{Ledger, Row, none, no_cell, places, row_at, cell_at, own_cell, no_initial, is_armed, is_watcher, first_block, certificates_at, put_row}
use Rattle.rulebook.specs.Cards.{tallied, change_of, leader, most}
use Rattle.rulebook.specs.Pool.{has_fallback, counts, weigh, weighs, signers_of, fifths_of, reached, some_kept, is_for, kept_as, held}
use Rattle.rulebook.specs.Votes.{place_of, with_vote, fill_fallback, with_fallbacks, store_vote}
use Rattle.rulebook.specs.Rules.{Record, State, state_of, rule_d, rule_a, rule_b, fallback_block, cast_fallback}
use Rattle.rulebook.specs.Run.{rule_at}
use Rattle.rule_laws.proofs.ToolLaws.{by_test, true_not_false, and_both, or_cases, or_left, or_right, given_off, given_on}
use Rattle.rule_laws.proofs.RuleLaws.{D-needs-vote}
use Rattle.rule_laws.proofs.WeightLaws.{reaches_more, weight_mono}
use Rattle.record.specs.Tabled.{Tabled}
use Rattle.settling.specs.Facts.{Sound}
use Rattle.settling.specs.Steps.{Settled}
use Rattle.settling.proofs.Places.{row_cases}
use Rattle.settling.proofs.Weighing.{stored_cases}
use Rattle.settling.proofs.RunLaws.{passed_over, rule_a_lem, rule_b_lem, rule_d_lem}
use Rattle.recounting.proofs.Using.{reached_two}
use Rattle.parents.proofs.ParentLaws.{held_fallback}
use Rattle.parents.proofs.FewLaws.{few_reached}
use Rattle.pool.proofs.HeldLaws.{reached_held, kept_held}
use Rattle.looks.specs.Looks.{Bounds, is_short, names_block}
use Rattle.looks.proofs.Beside.{short_names}
use Rattle.rules.proofs.RuleLaws.{A-off, B-off}
use Rattle.stirring.specs.Stirring.{opens_block, opens, Unwaiting, Unawaited, Unstirred, unwaited, unnamed, unskipped}
use Rattle.stirring.specs.Touched.{OthersVote, Calm}
use Rattle.stirring.proofs.Later.{fits_later, first_grounded, block_by}
use Rattle.stirring.proofs.Narrow.{quiet_b, quiet_d, calm_behind}

-- ---- who counts by a vote more

fill_skips : (x y z : Bool) (c : Cell) (b : ℕ) → counts who.SkipOrFallback (fill_fallback x y z c b) ≡ counts who.SkipOrFallback c
unfolding fill_fallback counts
fill_skips true y z c b = refl
fill_skips false true z c b = refl
fill_skips false false true c b = refl
fill_skips false false false c b = refl

-- A vote of this kind is for skip.
unfoldable for_skip : VoteKind → Bool
for_skip vote.Notar = false
for_skip vote.NotarFallback = false
for_skip vote.Skip = true
for_skip vote.SkipFallback = true
for_skip vote.Final = false
for_skip vote.Other = false

names_unskips : (k : VoteKind) → names_block k ≡ true → for_skip k ≡ false
unfolding names_block for_skip
names_unskips vote.Notar e = refl
names_unskips vote.NotarFallback e = refl
names_unskips vote.Skip e = sym e
names_unskips vote.SkipFallback e = sym e
names_unskips vote.Final e = refl
names_unskips vote.Other e = refl

same_skips : (c : Cell) (k : VoteKind) (b : ℕ) → for_skip k ≡ false → counts who.SkipOrFallback (with_vote c k b) ≡ counts who.SkipOrFallback c
unfolding for_skip with_vote counts
same_skips c vote.Notar b e = refl
same_skips c vote.NotarFallback b e = fill_skips (none c.fallback1) (none c.fallback2) (none c.fallback3) c b
same_skips c vote.Skip b e = true_not_false true refl e
same_skips c vote.SkipFallback b e = true_not_false true refl e
same_skips c vote.Final b e = refl
same_skips c vote.Other b e = refl

-- D has no block.
D-off : (o : State) (t : ℕ) → fallback_block o.ledger t ≡ 0 → no_initial (own_cell o.ledger t) ≡ false → rule_d o t ≡ o
unfolding rule_d
D-off o t e i =
    given_on (not (no_initial (own_cell o.ledger t))) o _ (ap not i) ∙ given_off (not (none (fallback_block o.ledger t))) o (λ _. cast_fallback o t (fallback_block o.ledger t)) (ap (λ (x : ℕ). not (none x)) e)

-- In one of three places there is a block that is not d.
fill_names : (x y z : Bool) (c : Cell) (b d : ℕ) → eqb b d ≡ false → counts (who.NotarOrFallback d) (fill_fallback x y z c b) ≡ true → counts (who.NotarOrFallback d) c ≡ true
unfolding fill_fallback counts has_fallback
fill_names true y z c b d ne t =
    first (eqb c.notar d) (eqb b d) (eqb c.fallback1 d) (eqb c.fallback2 d || eqb c.fallback3 d) ne t
  where
    first : (n p f r : Bool) → p ≡ false → (n || (p || r)) ≡ true → (n || (f || r)) ≡ true
    first true p f r e u = refl
    first false p true r e u = refl
    first false true false r e u = true_not_false true refl e
    first false false false r e u = u
fill_names false true z c b d ne t =
    second (eqb c.notar d) (eqb c.fallback1 d) (eqb b d) (eqb c.fallback2 d) (eqb c.fallback3 d) ne t
  where
    second : (n g p f r : Bool) → p ≡ false → (n || (g || (p || r))) ≡ true → (n || (g || (f || r))) ≡ true
    second true g p f r e u = refl
    second false true p f r e u = refl
    second false false p true r e u = refl
    second false false true false r e u = true_not_false true refl e
    second false false false false r e u = u
fill_names false false true c b d ne t =
    third (eqb c.notar d) (eqb c.fallback1 d) (eqb c.fallback2 d) (eqb b d) (eqb c.fallback3 d) ne t
  where
    third : (n g i p f : Bool) → p ≡ false → (n || (g || (i || p))) ≡ true → (n || (g || (i || f))) ≡ true
    third true g i p f e u = refl
    third false true i p f e u = refl
    third false false true p f e u = refl
    third false false false true f e u = true_not_false true refl e
    third false false false false f e u = true_not_false false u refl
fill_names false false false c b d ne t = t

-- A vote counts for no other block than its own.
other_names : (c : Cell) (k : VoteKind) (b d : ℕ) → (names_block k ≡ true → eqb b d ≡ false) → counts (who.NotarOrFallback d) (with_vote c k b) ≡ true → counts (who.NotarOrFallback d) c ≡ true
unfolding names_block with_vote counts has_fallback
other_names c vote.Notar b d ne t =
    or_cases (eqb b d) (has_fallback d c) t (λ u. true_not_false (eqb b d) u (ne refl)) (λ u. or_right (eqb c.notar d) (has_fallback d c) u)
other_names c vote.NotarFallback b d ne t = fill_names (none c.fallback1) (none c.fallback2) (none c.fallback3) c b d (ne refl) t
other_names c vote.Skip b d ne t = t
other_names c vote.SkipFallback b d ne t = t
other_names c vote.Final b d ne t = t
other_names c vote.Other b d ne t = t

module _ (l : Ledger) (h : Sound l) (table : Tabled l) (rs : List Record) (rest : Settled (state_of l rs)) (s n : ℕ) (k : VoteKind) (b : ℕ) (low : 1 ≤ s) (high : s ≤ last_slot)
    (node : n < places l) (outside : n ≡ l.own → ⊥) (free : place_of (cell_at l s n) k b ≡ Free) where
  abbrev pub row : Row
  row =
      let r = row_at l s in
      record { blocks = r.blocks; timed_out = r.timed_out; final = r.final; clash = r.clash; card = tallied r.card (change_of l s n k b); certificates = r.certificates; cells = set r.cells n (with_vote (cell_at l s n) k b) }

  abbrev stored : Ledger
  stored = put_row l s row

  pub is_stored : store_vote l s n k b ≡ stored
  unfolding store_vote
  is_stored = refl

  inside : s < length l.rows
  inside = omega (arith, h.shaped.rows, high)

  pub others : OthersVote l s row
  others =
      record { inside = inside; blocks = refl; final = refl; clash = refl; mine = get_or-set_other (row_at l s).cells n l.own (with_vote (cell_at l s n) k b) no_cell (λ e. outside (sym e)) }

  -- ---- what slot s holds then

  same_kept : (j : CertificateKind) (x : ℕ) → kept_as stored j s x ≡ kept_as l j s x
  unfolding kept_as
  same_kept j x = row_cases l s row (λ i y. i ≡ s → some_kept (is_for j x) 0 y.certificates ≡ some_kept (is_for j x) 0 (certificates_at l s)) s inside (λ _. refl) (λ ne. absurd (ne refl)) refl

  weighs_less : (w : Who) → (counts w (with_vote (cell_at l s n) k b) ≡ true → counts w (cell_at l s n) ≡ true) → weigh stored s w ≤ weigh l s w
  unfolding weigh store_vote
  weighs_less w f =
      weight_mono l.stakes l.count (λ i. counts w (cell_at stored s i)) (λ i. counts w (cell_at l s i))
      (λ i _. stored_cases l h.shaped s n k b high node free (λ j i c. counts w c ≡ true → counts w (cell_at l j i) ≡ true) f (λ j i u. u) s i)

  held_less : (j : CertificateKind) (x : ℕ) → (counts (signers_of j x) (with_vote (cell_at l s n) k b) ≡ true → counts (signers_of j x) (cell_at l s n) ≡ true)
      → held stored j s x ≡ true → held l j s x ≡ true
  unfolding held reached weighs
  held_less j x f e =
      or_cases (reaches (fifths_of j) l.total (weigh stored s (signers_of j x))) (kept_as stored j s x) e
      (λ u. or_left (reaches (fifths_of j) l.total (weigh l s (signers_of j x))) (kept_as l j s x) (reaches_more (fifths_of j) l.total (weigh stored s (signers_of j x)) (weigh l s (signers_of j x)) (weighs_less (signers_of j x) f) u))
      (λ u. or_right (reaches (fifths_of j) l.total (weigh l s (signers_of j x))) (kept_as l j s x) (sym (same_kept j x) ∙ u))

  three_other : (x : ℕ) → (names_block k ≡ true → eqb b x ≡ false) → held stored certificate.NotarFallback s x ≡ true → held l certificate.NotarFallback s x ≡ true
  unfolding signers_of
  three_other x ne = held_less certificate.NotarFallback x (other_names (cell_at l s n) k b x ne)

  four_other : for_skip k ≡ false → held stored certificate.Skip s 0 ≡ true → held l certificate.Skip s 0 ≡ true
  unfolding signers_of
  four_other e = held_less certificate.Skip 0 (λ t. sym (same_skips (cell_at l s n) k b e) ∙ t)

  unreached : (x : ℕ) → reached stored certificate.NotarFallback s x ≡ false → held stored certificate.NotarFallback s x ≡ true → held l certificate.NotarFallback s x ≡ true
  unfolding held
  unreached x e t =
      or_cases (reached stored certificate.NotarFallback s x) (kept_as stored certificate.NotarFallback s x) t (λ u. true_not_false (reached stored certificate.NotarFallback s x) u e)
      (λ u. kept_held l certificate.NotarFallback s x (sym (same_kept certificate.NotarFallback x) ∙ u))

  module _ (sound : Sound stored) where
    calm_by : ((x : ℕ) → none x ≡ false → held stored certificate.NotarFallback s x ≡ true → held l certificate.NotarFallback s x ≡ true)
        → (held stored certificate.Skip s 0 ≡ true → held l certificate.Skip s 0 ≡ true) → Calm stored rs s
    calm_by three four = calm_behind l rs s row low high h sound others rest table three four

    -- A vote that names b: no other block is held more, and b not either.
    named_by : names_block k ≡ true → (none b ≡ false → held stored certificate.NotarFallback s b ≡ true → held l certificate.NotarFallback s b ≡ true) → Calm stored rs s
    named_by e f =
        calm_by
        (λ x z.
        by_test (eqb b x)
        (λ u.
        let is = eqb-true b x u in
        subst (λ (y : ℕ). held stored certificate.NotarFallback s y ≡ true → held l certificate.NotarFallback s y ≡ true) is (f (ap none is ∙ z)))
        (λ u. three_other x (λ _. u)))
        (four_other (names_unskips k e))

    unnamed_by : names_block k ≡ false → (held stored certificate.Skip s 0 ≡ true → held l certificate.Skip s 0 ≡ true) → Calm stored rs s
    unnamed_by e f = calm_by (λ x z. three_other x (λ q. true_not_false (names_block k) q e)) f

    module _ (looks : List ℕ) (bounds : Bounds stored looks) where
      short_by : is_short l looks s ≡ true → none b ≡ false → held stored certificate.NotarFallback s b ≡ true → held l certificate.NotarFallback s b ≡ true
      unfolding is_short
      short_by e z = unreached b (few_reached stored s (short_names stored s looks bounds e) b z)

      led_by : (eqb (leader l s) b && reaches 3 l.total (most l s)) ≡ true → none b ≡ false → held l certificate.NotarFallback s b ≡ true
      led_by e z = held_fallback l s b (reached_held l certificate.Notar s b (reached_two l s table.sum table.some b (positive b (eqb-false b 0 z)) ∙ e))
        where
          positive : (x : ℕ) → (x ≡ 0 → ⊥) → 1 ≤ x
          positive zero f = absurd (f refl)
          positive (suc x) f = omega arith

      block_shut : names_block k ≡ true → opens_block l looks s b ≡ false → Calm stored rs s
      unfolding opens_block
      block_shut e o =
          let led = eqb (leader l s) b && reaches 3 l.total (most l s) in
          named_by e
          (λ z t.
          by_test (is_short l looks s) (λ u. short_by u z t)
          (λ u. led_by (not-false led ((λ i. not (sym u i) && not led) ∙ o)) z))

      pub calm_shut : (j : VoteKind) → k ≡ j → opens l looks s j b ≡ false → Calm stored rs s
      unfolding opens names_block for_skip
      calm_shut vote.Notar e o = block_shut (ap names_block e) o
      calm_shut vote.NotarFallback e o = block_shut (ap names_block e) o
      calm_shut vote.Skip e o = unnamed_by (ap names_block e) (λ _. not-false (held l certificate.Skip s 0) o)
      calm_shut vote.SkipFallback e o = unnamed_by (ap names_block e) (λ _. not-false (held l certificate.Skip s 0) o)
      calm_shut vote.Final e o = unnamed_by (ap names_block e) (four_other (ap for_skip e))
      calm_shut vote.Other e o = unnamed_by (ap names_block e) (four_other (ap for_skip e))

    unwaiting_by : Unawaited stored s → Calm stored rs s
    unfolding is_watcher
    unwaiting_by f =
        record {
          A = λ t a c.
              let w = f t a c in
              rule_a_lem now t ∙ A-off now t (by_test (is_first t) (λ u. (λ i. u i && not (w.armed u i))) (λ u. (λ i. u i && not (is_armed stored t))));
          B = λ t a c.
              let w = f t a c in
              by_test (is_first t) (λ u. votes 1 t (omega arith) (omega arith) (λ v. rule_b_lem now t v ∙ B-off now t (w.voted u)))
              (λ u. quiet_b l rs s row low high h sound others rest t (omega arith) c (λ _. fits_later l s row t inside refl refl refl others.mine u (first_block l t)));
          D = λ t a c.
              let w = f t a c in
              by_test (is_first t)
              (λ u. quiet_d l rs s row low high h sound others rest t (omega arith) c (block_by l s row t inside refl refl refl others.mine (λ q. omega arith) (first_grounded l s row t inside refl refl refl others.mine u)))
              (λ u. votes 3 t (omega arith) (omega arith) (λ v. rule_d_lem now t v ∙ by_test (no_initial (own_cell stored t)) (D-needs-vote now t) (λ y. D-off now t (w.alone u y) y)));
        }
      where
        now : State
        now = state_of (put_row l s row) rs

        votes : (r t : ℕ) → 1 ≤ r → r ≤ 4 → (is_watcher (put_row l s row) ≡ false → rule_at r now t ≡ now) → rule_at r now t ≡ now
        votes r t a c g = by_test (is_watcher (put_row l s row)) (λ w. passed_over now t w r a c) g

    pub calm_unstirred : Unstirred stored s k → Calm stored rs s
    calm_unstirred (unwaited f) = unwaiting_by f
    calm_unstirred (unnamed e f) = named_by e (λ z. unreached b (f b z))
    calm_unstirred (unskipped e f) = unnamed_by e (λ t. true_not_false (held stored certificate.Skip s 0) t f)
