-- Behind an idle slot neither rule A nor rule B applies in the first slot of a window. Assumes nothing.
use mathlib.Core.Path.{◌≡◌, refl, sym, ap, ◌∙◌}
use mathlib.Core.Bool.{Bool, true, false, not, ◌&&◌}
use mathlib.Core.List.{List, [], ◌∷◌}
use Prim.Native.Nat.{ℕ, ◌+◌, ◌-◌, ◌≤◌}
use native.Mathlib.Omega.{arith}
use lib.ListN.{get_or}
use lib.Dec.{eqb, ltb}
use borrow.Author.Tests.{eqb-false, ltb-true, ltb-false, not-true, ne_eqb, eq-eqb}
use Rattle.rulebook.specs.declared.Block.{Block}
use Rattle.rulebook.specs.declared.CertificateKind.TheVariants as certificate
use Rattle.rulebook.specs.Weights.{is_first}
use Rattle.rulebook.specs.Ledger.{Ledger, none, no_block, own_cell, no_initial, is_armed, is_watcher, blocks_at, first_block, all_blocks, is_free, certificates_at}
use Rattle.rulebook.specs.Pool.{held, ready}
use Rattle.rulebook.specs.Rules.{State, rule_a, rule_b, parent_fits}
use Rattle.rulebook.specs.Run.{first_rule}
use Rattle.rulebook.specs.Inputs.{bad_parent}
use Rattle.rulebook.specs.WellFormed.{kept_fits, blocks_apart, blocks_fit}
use Rattle.rule_laws.proofs.ToolLaws.{given_on, and_both, by_test, true_not_false}
use Rattle.settling.proofs.RunLaws.{passed_over}
use Rattle.parents.proofs.ParentLaws.{parent_later}
use Rattle.parents.proofs.FewLaws.{few_reached, unkept_held}
use Rattle.parents.proofs.ReadyLaws.{ready_late, ready_unheld, ready_cut}
use Rattle.looks.specs.Looks.{Bounds}
use Rattle.looks.proofs.Beside.{short_names}
use Rattle.rules.proofs.RuleLaws.{A-off, A-none, B-off, B-none}
use Rattle.dormancy.specs.Dormant.{is_idle, names_kept, is_stranded, first_asked}
use Rattle.dormancy.proofs.SlotLaws.{pass, one_rule, only_a, only_b}
use Rattle.dormancy.proofs.DormantLaws.{kept_unheld, idle_parts, unready}

-- ---- no parent at all is ready behind an idle slot

module _ (l : Ledger) (q : ℕ) (looks : List ℕ) (b : Bounds l looks) (e : is_idle l looks q ≡ true) where
  -- no block of it holds kind 3
  none_holds : (x : ℕ) → none x ≡ false → held l certificate.NotarFallback q x ≡ false
  unfolding names_kept
  none_holds x z =
      unkept_held l q (kept_unheld (held l certificate.NotarFallback q) (certificates_at l q) (idle_parts l q looks b e).1) x z
      ∙ few_reached l q (short_names l q looks b (idle_parts l q looks b e).0) x z

  nothing_ready : (s p x : ℕ) → 1 ≤ q → s ≡ q + 1 → none x ≡ false → ready l s p x ≡ false
  nothing_ready s p x low t z =
      by_test (ltb p s)
      (λ a.
      by_test (ltb p q) (λ c. ready_cut l s p q x (ltb-true p q c) (omega arith) (idle_parts l q looks b e).2)
      (λ c.
      let is : p ≡ q = omega (arith, ltb-true p s a, ltb-false p q c) in
      ready_unheld l s p x (ltb-true p s a)
      (parent_later l p x (omega arith) ∙ ap (λ (i : ℕ). held l certificate.NotarFallback i x) is ∙ none_holds x z)))
      (λ a. ready_late l s p x (ltb-false p s a))

-- ---- a kept block that fits has a parent

pub first_fits : (p : Block → Bool) (bs : List Block) → all_blocks p bs ≡ true → is_free (get_or bs 0 no_block) ≡ false → p (get_or bs 0 no_block) ≡ true
unfolding all_blocks
first_fits p [] a n = true_not_false true refl n
first_fits p (k ∷ ks) a n = (and_both (p k) (all_blocks p ks) a).0

pub some_parent : (l : Ledger) (s : ℕ) (k : Block) → is_free k ≡ false → kept_fits l s k ≡ true → none k.parent ≡ false
unfolding kept_fits
some_parent l s k free fits =
    let g = sym (given_on (not (is_free k)) (none k.parentslot.0 && none k.parent) (λ _. not (none k.parent) && not (bad_parent l s k)) (ap not free)) ∙ fits in
    not-true (none k.parent) (and_both (not (none k.parent)) (not (bad_parent l s k)) g).0

-- ---- neither A nor B

module _ (o : State) (looks : List ℕ) (bounds : Bounds o.ledger looks) (s : ℕ) (low : 1 ≤ s) (fits : blocks_fit o.ledger s (blocks_at o.ledger s) ≡ true)
    (e : is_stranded o.ledger looks s ≡ true) where
  abbrev may_arm : Bool
  may_arm = is_first s && not (is_armed o.ledger s)

  abbrev may_notar : Bool
  may_notar = no_initial (own_cell o.ledger s) && not (none (first_block o.ledger s).number)

  parts : (is_first s ≡ true) × (eqb s 1 ≡ false) × (is_idle o.ledger looks (s - 1) ≡ true)
  unfolding is_stranded
  parts =
      let h = and_both (is_first s && not (eqb s 1)) (is_idle o.ledger looks (s - 1)) e in
      let g = and_both (is_first s) (not (eqb s 1)) h.0 in
      (g.0, not-true (eqb s 1) g.1, h.1)

  quiet_a : rule_a o s ≡ o
  quiet_a =
      by_test may_arm
      (λ t. A-none o s t (unready o.ledger (s - 1) looks bounds parts.2 s (omega (arith, eqb-false s 1 parts.1)) (omega arith)))
      (A-off o s)

  -- the first block's parent is not ready
  unfit : (not (none (first_block o.ledger s).number)) ≡ true → parent_fits o.ledger s (is_first s) (first_block o.ledger s) ≡ false
  unfolding parent_fits blocks_fit
  unfit n =
      let l = o.ledger in
      let bs = blocks_at l s in
      let free : is_free (first_block l s) ≡ false = not-true (is_free (first_block l s)) n in
      let kept = first_fits (kept_fits l s) bs (and_both (all_blocks (kept_fits l s) bs) (blocks_apart bs) fits).0 free in
      ap (λ (x : Bool). parent_fits l s x (first_block l s)) parts.0
      ∙ nothing_ready l (s - 1) looks bounds parts.2 s (first_block l s).parentslot.0 (first_block l s).parent (omega (arith, eqb-false s 1 parts.1)) (omega arith) (some_parent l s (first_block l s) free kept)

  quiet_b : rule_b o s ≡ o
  quiet_b =
      by_test may_notar
      (λ t. B-none o s t (unfit (and_both (no_initial (own_cell o.ledger s)) (not (none (first_block o.ledger s).number)) t).1))
      (B-off o s)

  pub stranded_quiet : first_rule 2 0 o s ≡ o
  stranded_quiet =
      pass o s 1 1 0 (sym (only_a o s) ∙ quiet_a)
      ∙ by_test (is_watcher o.ledger) (λ w. one_rule 1 o s ∙ passed_over o s w 1 (omega arith) (omega arith)) (λ v. sym (only_b o s v) ∙ quiet_b)

-- The rules that are not asked of a slot do not apply.
pub unasked_quiet : (o : State) (looks : List ℕ) → Bounds o.ledger looks → (s : ℕ) → 1 ≤ s → blocks_fit o.ledger s (blocks_at o.ledger s) ≡ true → (r : ℕ)
    → r ≡ first_asked (is_stranded o.ledger looks s) → (r ≤ 7) × (first_rule (7 - r) r o s ≡ first_rule 7 0 o s)
unfolding first_asked
unasked_quiet o looks bounds s low fits r is =
    by_test (is_stranded o.ledger looks s)
    (λ t.
    let two : r ≡ 2 = is ∙ ap first_asked t in
    (omega arith, ap (λ (i : ℕ). first_rule (7 - i) i o s) two ∙ sym (pass o s 2 5 0 (stranded_quiet o looks bounds s low fits t))))
    (λ t. let none : r ≡ 0 = is ∙ ap first_asked t in (omega arith, ap (λ (i : ℕ). first_rule (7 - i) i o s) none))

-- ---- the look at a slot, as code goes through it

module _ (l : Ledger) (looks : List ℕ) (s : ℕ) (f : Bool) (first : f ≡ is_first s) where
  pub stranded_inside : f ≡ false → false ≡ is_stranded l looks s
  unfolding is_stranded
  stranded_inside e = λ k. ((sym e ∙ first) k && not (eqb s 1)) && is_idle l looks (s - 1)

  module _ (e : f ≡ true) where
    pub stranded_genesis : s ≡ 1 → false ≡ is_stranded l looks s
    unfolding is_stranded
    stranded_genesis z = λ k. ((sym e ∙ first) k && not (sym (eq-eqb s 1 z) k)) && is_idle l looks (s - 1)

    pub stranded_idle : (s ≡ 1 → ⊥) → (x : Bool) → x ≡ is_idle l looks (s - 1) → x ≡ is_stranded l looks s
    unfolding is_stranded
    stranded_idle ne x h = h ∙ (λ k. ((sym e ∙ first) k && not (sym (ne_eqb s 1 ne) k)) && is_idle l looks (s - 1))
