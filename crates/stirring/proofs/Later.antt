-- Where a slot holds no certificate for parents that it did not hold before, no later slot has a parent more, and D no block more. Assumes nothing.
use mathlib.Core.Path.{◌≡◌, refl, sym, ap, ◌∙◌, subst}
use mathlib.Core.Bool.{Bool, true, false, not, ◌&&◌, ◌||◌}
use mathlib.Core.List.{List, [], ◌∷◌}
use Prim.Native.Nat.{ℕ, zero, suc, ◌+◌, ◌-◌, ◌≤◌, ◌<◌}
use native.Mathlib.Omega.{arith}
use lib.ListN.{length, get_or}
use lib.Dec.{eqb, ltb, leb}
use borrow.Author.Tests.{eqb-true, eqb-false, eq-eqb, ne_eqb, lt-ltb, ltb-true, leb-true, leb-false, not-true}
use Rattle.rulebook.specs.declared.Block.{Block}
use Rattle.rulebook.specs.declared.Cell.{Cell}
use Rattle.rulebook.specs.declared.CertificateKind.TheVariants as certificate
use Rattle.rulebook.specs.declared.Who.TheVariants as who
use Rattle.rulebook.specs.Certificates.{Kept}
use Rattle.rulebook.specs.Tools.{whenever, all_to, some_to, any_of, lowest}
use Rattle.rulebook.specs.Weights.{is_first, reaches, weight}
use Rattle.rulebook.specs.Ledger.{Ledger, Row, none, no_block, no_cell, no_kept, row_at, cell_at, own_cell, is_free, has_number, blocks_at, first_block, some_block, all_blocks, certificates_at, put_row}
use Rattle.rulebook.specs.Pool.{has_fallback, counts, weigh, weighs, signers_of, fifths_of, reached, place_kind, serves_as, is_for, kept_as, held, names_to, names, kept_names, certifiable, parent_held, parent_names, skipped_between, ready, some_ready}
use Rattle.rulebook.specs.Rules.{window_open, may_fallback, fallback_weights, parent_fits, parent_backed, is_backed, is_grounded, falls_back, fallback_block}
use Rattle.rulebook.specs.Inputs.{bad_parent}
use Rattle.rulebook.specs.WellFormed.{kept_fits, blocks_apart, blocks_fit}
use Rattle.rule_laws.proofs.ToolLaws.{by_test, true_not_false, and_both, both_and, or_cases, or_left, or_right, given_on, given_both, all_at, all_each, some_at, some_find, some_each}
use Rattle.rule_laws.proofs.WeightLaws.{weight_none}
use Rattle.rule_laws.proofs.LowestLaws.{Among, ZeroFree, free_named, free_positive, names_free, low_find, low_le}
use Rattle.rule_laws.proofs.CertificateLaws.{some_place, kept_name}
use Rattle.safety.specs.Slot.{notar, notar_fallback}
use Rattle.safety.specs.Ballots.{has}
use Rattle.safety.proofs.Tests.{true_t, T_true, T-left, T-right, T_and, or_t}
use Rattle.progress.proofs.Named.{among_any, vote_certifiable}
use Rattle.record.specs.Tabled.{Tabled}
use Rattle.recounting.proofs.Using.{reached_some}
use Rattle.parents.proofs.ParentLaws.{parent_later}
use Rattle.dormancy.proofs.Stranded.{first_fits, some_parent}
use Rattle.stirring.proofs.Elsewhere.{names_other, weights_other, same_blocks, same_own, same_open}

-- ---- lists of names

any_find : (p : ℕ → Bool) (bs : List ℕ) → any_of p bs ≡ true → (b : ℕ) × Among b bs × (p b ≡ true)
unfolding any_of
any_find p [] e = true_not_false false e refl
any_find p (b ∷ bs) e =
    or_cases (p b) (any_of p bs) e (λ t. (b, or_left (eqb b b) (any_of (eqb b) bs) (eq-eqb b b refl), t))
    (λ t. let h = any_find p bs t in (h.0, or_right (eqb h.0 b) (any_of (eqb h.0) bs) h.1, h.2))

kept_free : (qs : List Kept) (bs : List ℕ) → ZeroFree bs → ZeroFree (kept_names qs bs)
unfolding kept_names
kept_free [] bs h = h
kept_free (q ∷ qs) bs h = free_named q.block (kept_names qs bs) (kept_free qs bs h)

-- A block that holds kind 3 is named, by a vote or by a certificate.
module _ (l : Ledger) (s : ℕ) (k : Tabled l) (x : ℕ) (z : none x ≡ false) where
  counted_has : (c : Cell) → counts (who.NotarOrFallback x) c ≡ true → (has c (notar x) || has c (notar_fallback x)) ≡ true
  unfolding counts
  counted_has c e =
      or_cases (eqb c.notar x) (has_fallback x c) e
      (λ t. or_left (has c (notar x)) (has c (notar_fallback x)) (both_and (not (none x)) (eqb c.notar x) (ap not z) t))
      (λ t. or_right (has c (notar x)) (has c (notar_fallback x)) (both_and (not (none x)) (has_fallback x c) (ap not z) t))

  reached_named : reached l certificate.NotarFallback s x ≡ true → Among x (certifiable l s)
  unfolding reached weighs weigh fifths_of signers_of
  reached_named e =
      let p : ℕ → Bool = λ n. counts (who.NotarOrFallback x) (cell_at l s n) in
      by_test (some_to l.count p)
      (λ t.
      let f = some_find l.count p t in
      vote_certifiable l s f.0 x f.1 (true_t (has (cell_at l s f.0) (notar x) || has (cell_at l s f.0) (notar_fallback x)) (counted_has (cell_at l s f.0) f.2)))
      (λ t.
      let w = weight_none l.stakes l.count p (λ i d. some_each l.count i p t d) in
      absurd (omega (arith, w, reached_some l s k.sum k.some 3 (weight l.stakes l.count p) (omega arith) e)))

  held_named : held l certificate.NotarFallback s x ≡ true → Among x (certifiable l s)
  unfolding held kept_as is_for certifiable
  held_named e =
      or_cases (reached l certificate.NotarFallback s x) (kept_as l certificate.NotarFallback s x) e reached_named
      (λ t.
      let f = some_place (is_for certificate.NotarFallback x) 0 (certificates_at l s) t in
      let q = and_both (serves_as (place_kind (0 + f.0)) certificate.NotarFallback) (eqb (get_or (certificates_at l s) f.0 no_kept).block x) f.2 in
      kept_name (certificates_at l s) (names l s) f.0 x (eqb-true (get_or (certificates_at l s) f.0 no_kept).block x q.1) z)

-- ---- D's block, where a block that need not be waited for is one that need not before

module _ (l : Ledger) (s : ℕ) (r : Row) (t : ℕ) (inside : s < length l.rows) (blocks : r.blocks ≡ (row_at l s).blocks) (final : r.final ≡ (row_at l s).final)
    (clash : r.clash ≡ (row_at l s).clash) (mine : get_or r.cells l.own no_cell ≡ own_cell l s) where
  abbrev n : Ledger
  n = put_row l s r

  -- B outside a window's first slot
  pub fits_later : is_first t ≡ false → (j : Block) → parent_fits n t (is_first t) j ≡ true → parent_fits l t (is_first t) j ≡ true
  unfolding parent_fits
  fits_later f j e =
      ap (λ (x : Bool). parent_fits l t x j) f
      ∙ (λ i. eqb j.parentslot.0 (t - 1) && eqb (sym (same_own l s r inside blocks final clash mine (t - 1)) i).notar j.parent)
      ∙ ap (λ (x : Bool). parent_fits n t x j) (sym f)
      ∙ e

  -- D in a window's first slot waits for no block
  pub first_grounded : is_first t ≡ true → (b : ℕ) → is_grounded n t b ≡ true → is_grounded l t b ≡ true
  unfolding is_grounded
  first_grounded f b e = or_left (is_first t) (some_block (is_backed l t b) (blocks_at l t)) f

  module _ (ne : t ≡ s → ⊥) (grounded : (b : ℕ) → is_grounded n t b ≡ true → is_grounded l t b ≡ true) where
    falls_in : (b : ℕ) → falls_back n t b ≡ true → falls_back l t b ≡ true
    unfolding falls_back
    falls_in b e =
        let own = same_own l s r inside blocks final clash mine t in
        let may : Cell → Bool → Bool = λ x w. not (eqb x.notar b) && (w || may_fallback x b) in
        let same : may (own_cell n t) (window_open n t) ≡ may (own_cell l t) (window_open l t) = (λ i. may (own i) (same_open l s r inside blocks final clash mine t i)) in
        let a = given_both (may (own_cell n t) (window_open n t)) (λ _. whenever (fallback_weights n t b) (λ _. is_grounded n t b) false) e in
        let c = given_both (fallback_weights n t b) (λ _. is_grounded n t b) a.1 in
        given_on (may (own_cell l t) (window_open l t)) false (λ _. whenever (fallback_weights l t b) (λ _. is_grounded l t b) false) (sym same ∙ a.0)
        ∙ given_on (fallback_weights l t b) false (λ _. is_grounded l t b) (sym (weights_other l s r t ne b) ∙ c.0)
        ∙ grounded b c.1

    pub block_by : none (fallback_block n t) ≡ false → none (fallback_block l t) ≡ false
    unfolding fallback_block names
    block_by e =
        let d = lowest (falls_back n t) (names n t) in
        let f = low_find (falls_back n t) (names n t) (positive d (eqb-false d 0 e)) in
        let there : Among d (names l t) = subst (λ (bs : List ℕ). Among d bs) (names_other l s r t ne) f.0 in
        let low = (low_le (falls_back l t) (names l t) d (names_free l t l.count) there (falls_in d f.1)).0 in
        ne_eqb (lowest (falls_back l t) (names l t)) 0 (λ q. omega arith)
      where
        positive : (x : ℕ) → (x ≡ 0 → ⊥) → 1 ≤ x
        positive zero f = absurd (f refl)
        positive (suc x) f = omega arith

module _ (l : Ledger) (s : ℕ) (r : Row) where
  abbrev m : Ledger
  m = put_row l s r

  -- ---- no slot below t holds more for parents

  module _ (k : Tabled l) (t : ℕ) (three : (q x : ℕ) → q < t → none x ≡ false → held m certificate.NotarFallback q x ≡ true → held l certificate.NotarFallback q x ≡ true)
      (four : (q : ℕ) → q < t → held m certificate.Skip q 0 ≡ true → held l certificate.Skip q 0 ≡ true) where
    between_in : (p : ℕ) → skipped_between m p t ≡ true → skipped_between l p t ≡ true
    unfolding skipped_between
    between_in p e =
        all_each (t - suc p) (λ i. held l certificate.Skip (suc p + i) 0)
        (λ i h. four (suc p + i) (omega arith) (all_at (t - suc p) i (λ i. held m certificate.Skip (suc p + i) 0) e h))

    parent_in : (p x : ℕ) → p < t → (1 ≤ p → none x ≡ false) → parent_held m p x ≡ true → parent_held l p x ≡ true
    unfolding parent_held
    parent_in zero x u z e = e
    parent_in (suc p) x u z e =
        parent_later l (suc p) x (omega arith) ∙ three (suc p) x u (z (omega arith)) (sym (parent_later m (suc p) x (omega arith)) ∙ e)

    module _ (p x : ℕ) (z : 1 ≤ p → none x ≡ false) (e : ready m t p x ≡ true) where
      parts : (ltb p t ≡ true) × (parent_held m p x ≡ true) × (skipped_between m p t ≡ true)
      unfolding ready
      parts =
          let a = given_both (ltb p t) (λ _. whenever (parent_held m p x) (λ _. skipped_between m p t) false) e in
          let b = given_both (parent_held m p x) (λ _. skipped_between m p t) a.1 in
          (a.0, b.0, b.1)

      pub held_in : parent_held l p x ≡ true
      held_in = parent_in p x (ltb-true p t parts.0) z parts.1

      pub ready_in_lem : ready l t p x ≡ true
      unfolding ready
      ready_in_lem =
          given_on (ltb p t) false (λ _. whenever (parent_held l p x) (λ _. skipped_between l p t) false) parts.0
          ∙ given_on (parent_held l p x) false (λ _. skipped_between l p t) held_in
          ∙ between_in p parts.2

    -- ---- A: some parent

    found_in : (p : ℕ) → any_of (ready m t p) (parent_names m p) ≡ true → any_of (ready l t p) (parent_names l p) ≡ true
    unfolding parent_names any_of certifiable names
    found_in zero e =
        or_cases (ready m t 0 l.genesis) false e (λ u. or_left (ready l t 0 l.genesis) false (ready_in_lem 0 l.genesis (λ h. absurd (omega arith)) u)) (λ u. true_not_false false u refl)
    found_in (suc p) e =
        let h = any_find (ready m t (suc p)) (certifiable m (suc p)) e in
        let x = h.0 in
        let some = free_positive (certifiable m (suc p)) x (kept_free (certificates_at m (suc p)) (names_to m (suc p) m.count) (names_free m (suc p) m.count)) h.1 in
        let z : none x ≡ false = ne_eqb x 0 (λ q. omega arith) in
        let has = held_named l (suc p) k x z (sym (parent_later l (suc p) x (omega arith)) ∙ held_in (suc p) x (λ _. z) h.2) in
        T_true (any_of (ready l t (suc p)) (certifiable l (suc p)))
        (among_any (ready l t (suc p)) x (certifiable l (suc p)) has (true_t (ready l t (suc p) x) (ready_in_lem (suc p) x (λ _. z) h.2)))

    pub some_in : some_ready m t ≡ true → some_ready l t ≡ true
    unfolding some_ready
    some_in e =
        let f = some_find t (λ p. any_of (ready m t p) (parent_names m p)) e in
        some_at t f.0 (λ p. any_of (ready l t p) (parent_names l p)) f.1 (found_in f.0 f.2)

    -- ---- D: a block's parent

    backed_in : (b : ℕ) (j : Block) → kept_fits l t j ≡ true → is_backed m t b j ≡ true → is_backed l t b j ≡ true
    unfolding is_backed parent_backed
    backed_in b j fits e =
        let kept = not (is_free j) && has_number b j in
        let q = j.parentslot.0 in
        let a = given_both kept (λ _. whenever (not (none q) && ltb q t) (λ _. held m certificate.NotarFallback q j.parent) false) e in
        let c = given_both (not (none q) && ltb q t) (λ _. held m certificate.NotarFallback q j.parent) a.1 in
        let some = some_parent l t j (not-true (is_free j) (and_both (not (is_free j)) (has_number b j) a.0).0) fits in
        given_on kept false (λ _. whenever (not (none q) && ltb q t) (λ _. held l certificate.NotarFallback q j.parent) false) a.0
        ∙ given_on (not (none q) && ltb q t) false (λ _. held l certificate.NotarFallback q j.parent) c.0
        ∙ three q j.parent (ltb-true q t (and_both (not (none q)) (ltb q t) c.0).1) some c.1

    some_backed : (b : ℕ) (js : List Block) → all_blocks (kept_fits l t) js ≡ true → some_block (is_backed m t b) js ≡ true → some_block (is_backed l t b) js ≡ true
    unfolding all_blocks some_block
    some_backed b [] f e = e
    some_backed b (j ∷ js) f e =
        let g = and_both (kept_fits l t j) (all_blocks (kept_fits l t) js) f in
        or_cases (is_backed m t b j) (some_block (is_backed m t b) js) e
        (λ u. or_left (is_backed l t b j) (some_block (is_backed l t b) js) (backed_in b j g.0 u))
        (λ u. or_right (is_backed l t b j) (some_block (is_backed l t b) js) (some_backed b js g.1 u))

    module _ (inside : s < length l.rows) (blocks : r.blocks ≡ (row_at l s).blocks) (final : r.final ≡ (row_at l s).final) (clash : r.clash ≡ (row_at l s).clash)
        (mine : get_or r.cells l.own no_cell ≡ own_cell l s) (fits : blocks_fit l t (blocks_at l t) ≡ true) where
      -- ---- B: the first block's parent

      pub fits_in : none (first_block l t).number ≡ false → parent_fits m t (is_first t) (first_block l t) ≡ true → parent_fits l t (is_first t) (first_block l t) ≡ true
      unfolding parent_fits blocks_fit
      fits_in free = go (is_first t)
        where
          j : Block
          j = first_block l t

          some : none j.parent ≡ false
          some = some_parent l t j free (first_fits (kept_fits l t) (blocks_at l t) (and_both (all_blocks (kept_fits l t) (blocks_at l t)) (blocks_apart (blocks_at l t)) fits).0 free)

          go : (f : Bool) → parent_fits m t f j ≡ true → parent_fits l t f j ≡ true
          go true e = ready_in_lem j.parentslot.0 j.parent (λ _. some) e
          go false e = (λ i. eqb j.parentslot.0 (t - 1) && eqb (sym (same_own l s r inside blocks final clash mine (t - 1)) i).notar j.parent) ∙ e

      module _ (ne : t ≡ s → ⊥) where
        grounded_in : (b : ℕ) → is_grounded m t b ≡ true → is_grounded l t b ≡ true
        unfolding is_grounded blocks_fit
        grounded_in b e =
            let bs = blocks_at l t in
            or_cases (is_first t) (some_block (is_backed m t b) (blocks_at m t)) e (λ u. or_left (is_first t) (some_block (is_backed l t b) bs) u)
            (λ u. or_right (is_first t) (some_block (is_backed l t b) bs)
            (some_backed b bs (and_both (all_blocks (kept_fits l t) bs) (blocks_apart bs) fits).0 ((λ i. some_block (is_backed m t b) (sym (same_blocks l s r inside blocks final clash mine t) i)) ∙ u)))

        pub block_in : none (fallback_block m t) ≡ false → none (fallback_block l t) ≡ false
        block_in = block_by l s r t inside blocks final clash mine ne grounded_in
