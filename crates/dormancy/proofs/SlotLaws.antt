-- The first rule that applies in one slot: rules tried in two parts, and a bare slot. Assumes nothing.
use mathlib.Core.Path.{◌≡◌, refl, sym, ap, ◌∙◌}
use mathlib.Core.Bool.{Bool, true, false}
use Prim.Native.Nat.{ℕ, zero, suc, ◌+◌, ◌≤◌}
use native.Mathlib.Omega.{arith}
use native.Mathlib.Numerals.{add-one}
use Rattle.rulebook.specs.Ledger.{none, first_block, is_watcher, own_cell, no_initial}
use Rattle.rulebook.specs.Rules.{State, rule_a, rule_b, rule_c, rule_d, rule_e, rule_f, rule_g}
use Rattle.rulebook.specs.Run.{made, quiet, rule_at, first_rule}
use Rattle.rule_laws.proofs.ToolLaws.{given_off, by_test, and_both}
use Rattle.rule_laws.proofs.RuleLaws.{C-needs-vote, D-needs-vote, E-needs-vote}
use Rattle.settling.proofs.RunLaws.{quiet_true, quiet_false, rule_step, rule_stop, rule_end, passed_over, rule_a_lem, rule_b_lem, rule_c_lem, rule_d_lem, rule_e_lem, rule_f_lem, rule_g_lem}
use Rattle.dormancy.specs.Dormant.{is_bare}

-- ---- k rules and then n more

-- A rule made no record, or it made one.
by_record : {X : Type 0} (o p : State) → (made p ≡ made o → X) → ((made p ≡ made o → ⊥) → X) → X
by_record {X = X} o p none some = go (quiet o p) refl
  where
    go : (t : Bool) → quiet o p ≡ t → X
    go true e = none (quiet_true o p e)
    go false e = some (quiet_false o p e)

-- The k made no record: the n are tried.
pub rules_on : (k n r : ℕ) (o : State) (s : ℕ) → made (first_rule k r o s) ≡ made o → first_rule (k + n) r o s ≡ first_rule n (r + k) (first_rule k r o s) s
rules_on zero n r o s e =
    let a : 0 + n ≡ n = omega arith in
    let b : r + 0 ≡ r = omega arith in
    rw (a, b, rule_end o s r 0 refl)
rules_on (suc k) n r o s e =
    let p : State = rule_at r o s in
    let more : suc k + n ≡ (k + n) + 1 = omega arith in
    let next : (r + 1) + k ≡ r + suc k = omega arith in
    by_record o p
    (λ q.
    let here : first_rule (suc k) r o s ≡ first_rule k (r + 1) p s = rule_step o p s r (suc k) k (sym (add-one k)) refl q in
    rule_step o p s r (suc k + n) (k + n) more refl q
    ∙ rules_on k n (r + 1) p s (ap made (sym here) ∙ e ∙ sym q)
    ∙ ap (λ (x : State). first_rule n ((r + 1) + k) x s) (sym here)
    ∙ ap (λ (i : ℕ). first_rule n i (first_rule (suc k) r o s) s) next)
    (λ ne. absurd (ne (ap made (sym (rule_stop o p s r (suc k) k (sym (add-one k)) refl ne)) ∙ e)))

-- The k give the state back: they are passed over.
pub pass : (o : State) (s k n r : ℕ) → first_rule k r o s ≡ o → first_rule (k + n) r o s ≡ first_rule n (r + k) o s
pass o s k n r e = rules_on k n r o s (ap made e) ∙ ap (λ (x : State). first_rule n (r + k) x s) e

-- They made one: the n are not tried.
pub rules_off : (k n r : ℕ) (o : State) (s : ℕ) → (made (first_rule k r o s) ≡ made o → ⊥) → first_rule (k + n) r o s ≡ first_rule k r o s
rules_off zero n r o s e = absurd (e (ap made (rule_end o s r 0 refl)))
rules_off (suc k) n r o s e =
    let p : State = rule_at r o s in
    let more : suc k + n ≡ (k + n) + 1 = omega arith in
    by_record o p
    (λ q.
    let here : first_rule (suc k) r o s ≡ first_rule k (r + 1) p s = rule_step o p s r (suc k) k (sym (add-one k)) refl q in
    rule_step o p s r (suc k + n) (k + n) more refl q
    ∙ rules_off k n (r + 1) p s (λ z. e (ap made here ∙ z ∙ q))
    ∙ sym here)
    (λ ne. rule_stop o p s r (suc k + n) (k + n) more refl ne ∙ sym (rule_stop o p s r (suc k) k (sym (add-one k)) refl ne))

-- One rule alone gives what it gives.
pub one_rule : (r : ℕ) (o : State) (s : ℕ) → first_rule 1 r o s ≡ rule_at r o s
one_rule r o s =
    let p : State = rule_at r o s in
    by_record o p (λ q. rule_step o p s r 1 0 refl refl q ∙ rule_end p s (r + 1) 0 refl) (λ ne. rule_stop o p s r 1 0 refl refl ne)

module _ (o : State) (s : ℕ) where
  pub only_a : rule_a o s ≡ first_rule 1 0 o s
  only_a = sym (one_rule 0 o s ∙ rule_a_lem o s)

  pub only_b : is_watcher o.ledger ≡ false → rule_b o s ≡ first_rule 1 1 o s
  only_b v = sym (one_rule 1 o s ∙ rule_b_lem o s v)

  pub only_c : is_watcher o.ledger ≡ false → rule_c o s ≡ first_rule 1 2 o s
  only_c v = sym (one_rule 2 o s ∙ rule_c_lem o s v)

  pub only_d : is_watcher o.ledger ≡ false → rule_d o s ≡ first_rule 1 3 o s
  only_d v = sym (one_rule 3 o s ∙ rule_d_lem o s v)

  pub only_e : is_watcher o.ledger ≡ false → rule_e o s ≡ first_rule 1 4 o s
  only_e v = sym (one_rule 4 o s ∙ rule_e_lem o s v)

  pub only_f : rule_f o s ≡ first_rule 1 5 o s
  only_f = sym (one_rule 5 o s ∙ rule_f_lem o s)

  pub only_g : rule_g o s ≡ first_rule 1 6 o s
  only_g = sym (one_rule 6 o s ∙ rule_g_lem o s)

-- ---- a bare slot

module _ (o : State) (s : ℕ) where
  -- A watcher passes over rules B to E.
  watching_quiet : is_watcher o.ledger ≡ true → first_rule 4 1 o s ≡ o
  watching_quiet w =
      let over : (r : ℕ) → 1 ≤ r → r ≤ 4 → first_rule 1 r o s ≡ o = λ r a b. one_rule r o s ∙ passed_over o s w r a b in
      pass o s 1 3 1 (over 1 (omega arith) (omega arith))
      ∙ pass o s 1 2 2 (over 2 (omega arith) (omega arith))
      ∙ pass o s 1 1 3 (over 3 (omega arith) (omega arith))
      ∙ over 4 (omega arith) (omega arith)

  module _ (v : is_watcher o.ledger ≡ false) (vote : no_initial (own_cell o.ledger s) ≡ true) (block : none (first_block o.ledger s).number ≡ true) where
    B-needs-block : rule_b o s ≡ o
    unfolding rule_b
    B-needs-block = given_off _ _ _ (rw (vote, block))

    -- Neither an own initial vote nor a kept block.
    voting_quiet : first_rule 4 1 o s ≡ o
    voting_quiet =
        pass o s 1 3 1 (sym (only_b o s v) ∙ B-needs-block)
        ∙ pass o s 1 2 2 (sym (only_c o s v) ∙ C-needs-vote o s vote)
        ∙ pass o s 1 1 3 (sym (only_d o s v) ∙ D-needs-vote o s vote)
        ∙ sym (only_e o s v)
        ∙ E-needs-vote o s vote

  -- None of rules B to E applies.
  pub bare_quiet : is_bare o.ledger s ≡ true → first_rule 4 1 o s ≡ o
  unfolding is_bare
  bare_quiet e =
      let h = and_both (no_initial (own_cell o.ledger s)) (none (first_block o.ledger s).number) e in
      by_test (is_watcher o.ledger) watching_quiet (λ v. voting_quiet v h.0 h.1)
