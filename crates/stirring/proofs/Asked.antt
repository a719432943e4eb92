-- The looks at later slots, as code goes through them. Assumes nothing.
use mathlib.Core.Path.{◌≡◌, refl, sym, ap, ◌∙◌, subst}
use mathlib.Core.Bool.{Bool, true, false, not, ◌&&◌, ◌||◌}
use mathlib.Core.List.{List}
use Prim.Native.Nat.{ℕ, ◌+◌, ◌-◌, ◌≤◌, ◌<◌}
use native.Mathlib.Omega.{arith}
use lib.ListN.{length}
use lib.Dec.{eqb}
use borrow.Author.Tests.{eq-eqb, ne_eqb, not-false, eqb-true, eqb-false}
use Rattle.std.specs.Bool.{MatchBool}
use Rattle.std.specs.List.{range_with_len, HoldsAt, AllWithin}
use Rattle.std.proofs.lemmas.List.FromFn.{length-range_with_len, get_or-range_with_len}
use Rattle.rulebook.specs.declared.Block.{Block}
use Rattle.rulebook.specs.declared.Cell.{Cell}
use Rattle.rulebook.specs.declared.Tally.{Tally}
use Rattle.rulebook.specs.Tools.{lower}
use Rattle.rulebook.specs.Weights.{is_first, reaches, missing, d_weights, last_slot}
use Rattle.rulebook.specs.Ledger.{Ledger, none, own_cell, no_initial, is_armed, first_block}
use Rattle.rulebook.specs.Cards.{leader, most, recount}
use Rattle.rulebook.specs.Rules.{fallback_block}
use Rattle.rule_laws.proofs.ToolLaws.{by_test, true_not_false, or_none}
use Rattle.rule_laws.proofs.WeightLaws.{reaches_fewer, reaches_found, some_missing}
use Rattle.rule_laws.proofs.LowestLaws.{lower_off}
use Rattle.record.specs.Tabled.{Tabled}
use Rattle.candidates.specs.Judging.{OneInitial}
use Rattle.candidates.proofs.CardLaws.{block_none, block_leader}
use Rattle.candidates.proofs.TestLaws.{falls_own, heavy_light}
use Rattle.looks.specs.Looks.{is_short}
use Rattle.stirring.specs.Stirring.{opens_block, Unwaiting, Unawaited}

-- ---- D's block, by the card

module _ (l : Ledger) (s : ℕ) (k : Tabled l) (t : Tally) (card : t ≡ recount l s) (all : ℕ) (a : all ≡ l.total) where
  pub falls_none : (m : ℕ) → m ≡ missing 1 all t.weight.0 → (m ≡ 0 → ⊥) → fallback_block l s ≡ 0
  falls_none m e z =
      let one = some_missing 1 all t.weight.0 m e z in
      let two : reaches 2 all t.weight.0 ≡ false =
      by_test (reaches 2 all t.weight.0) (λ u. true_not_false (reaches 1 all t.weight.0) (reaches_fewer 1 2 all t.weight.0 (omega arith) u) one) (λ u. u) in
      block_none l s k t card all a (heavy_light all t.weight.0 t.skip.0 two one)

  pub falls_alone : OneInitial l s → (c : Cell) → c ≡ own_cell l s → c.notar ≡ t.leader → (m : ℕ) → m ≡ missing 2 all (all - t.weight.0) → eqb m 0 ≡ false → fallback_block l s ≡ 0
  falls_alone one c own is m e z =
      let short : true ≡ not (reaches 2 all (all - t.weight.0)) = ap not (sym (reaches_found 2 all (all - t.weight.0) m e ∙ z)) in
      sym (block_leader l s k t card all a one true short refl false 0 (sym (falls_own l s t.leader c own is)) (sym (lower_off t.leader 0)))

-- ---- a slot that waits

module _ (l : Ledger) (t : ℕ) (c : Cell) (own : c ≡ own_cell l t) where
  pub first_done : is_first t ≡ true → (x n : Bool) → x ≡ is_armed l t → n ≡ no_initial c → (b : Block) → b ≡ first_block l t → (not x || (n && not (none b.number))) ≡ false → Unwaiting l t
  first_done first x n ex en b eb e =
      let h = or_none (not x) (n && not (none b.number)) e in
      record {
        armed = λ _. sym ex ∙ not-false x h.0;
        voted = λ _. (λ i. no_initial (sym own i) && not (none (sym eb i).number)) ∙ (λ i. sym en i && not (none b.number)) ∙ h.1;
        alone = λ f _. true_not_false (is_first t) first f;
      }

  pub later_done : is_first t ≡ false → (no_initial c ≡ false → fallback_block l t ≡ 0) → Unwaiting l t
  later_done first f =
      record {
        armed = λ g. true_not_false (is_first t) g first;
        voted = λ g. true_not_false (is_first t) g first;
        alone = λ _ e. f (ap no_initial own ∙ e);
      }

-- ---- the slots behind one

-- What holds of every number from a on, n of them, where a test found none.
pub none_found : (Yes No : ℕ → Type 0) (a n : ℕ) (r : Bool)
    → MatchBool r ((k : ℕ) × (k < length (range_with_len a n)) × HoldsAt Yes (range_with_len a n) k) (AllWithin No (range_with_len a n) 0 (length (range_with_len a n)))
    → r ≡ false → (t : ℕ) → a ≤ t → t < a + n → No t
none_found Yes No a n true h e = λ t b d. absurd (true_not_false true refl e)
none_found Yes No a n false h e =
    λ t b d. subst No (get_or-range_with_len a n (t - a) 0 (omega arith) ∙ omega arith) (h (t - a) 0 (omega arith) (omega (arith, length-range_with_len a n)))

-- ---- a block that may be opened

module _ (l : Ledger) (looks : List ℕ) (s b : ℕ) (x : Bool) (short : x ≡ is_short l looks s) where
  abbrev led : Bool
  led = eqb (leader l s) b && reaches 3 l.total (most l s)

  pub opens_short : x ≡ true → false ≡ opens_block l looks s b
  unfolding opens_block
  opens_short e = λ i. not ((sym e ∙ short) i) && not led

  module _ (e : x ≡ false) (t : Tally) (card : t ≡ recount l s) where
    leads : t.leader ≡ leader l s
    unfolding recount
    leads = ap (λ (y : Tally). y.leader) card

    pub opens_other : (t.leader ≡ b → ⊥) → true ≡ opens_block l looks s b
    unfolding opens_block
    opens_other ne = λ i. not ((sym e ∙ short) i) && not (sym (ne_eqb (leader l s) b (λ q. ne (leads ∙ q))) i && reaches 3 l.total (most l s))

    pub opens_led : (y : Bool) → t.leader ≡ b → y ≡ reaches 3 l.total (most l s) → not y ≡ opens_block l looks s b
    unfolding opens_block
    opens_led y is h = λ i. not ((sym e ∙ short) i) && not (sym (eq-eqb (leader l s) b (sym leads ∙ is)) i && h i)
