-- Dormant slots: the look at them, and that none of their rules applies. Assumes nothing.
use mathlib.Core.Path.{◌≡◌, refl, sym, ap, ◌∙◌}
use mathlib.Core.Bool.{Bool, true, false, not, ◌&&◌, ◌||◌}
use mathlib.Core.List.{List, [], ◌∷◌}
use Prim.Native.Nat.{ℕ, zero, suc, ◌+◌, ◌-◌, ◌≤◌}
use native.Mathlib.Omega.{arith}
use lib.ListN.{length, get_or}
use lib.Dec.{eqb}
use borrow.Author.Tests.{eqb-true, eqb-false, eq-eqb, ne_eqb, not-true, not-false}
use Rattle.rulebook.specs.declared.Block.{Block}
use Rattle.rulebook.specs.declared.CertificateKind.{CertificateKind}
use Rattle.rulebook.specs.declared.CertificateKind.TheVariants as certificate
use Rattle.rulebook.specs.declared.Tally.{Tally}
use Rattle.rulebook.specs.Tools.{some_to, any_of, lower, lowest}
use Rattle.rulebook.specs.Weights.{is_first, reaches}
use Rattle.rulebook.specs.Certificates.{Kept}
use Rattle.rulebook.specs.Ledger.{Ledger, none, no_block, no_kept, row_at, own_cell, no_initial, is_armed, blocks_at, first_block, all_blocks, is_free, has_number, certificates_at}
use Rattle.rulebook.specs.Pool.{reached, place_kind, serves_as, is_for, kept_as, held, named, kept_names, certifiable, some_ready}
use Rattle.rulebook.specs.Rules.{State, rule_a, rule_g, is_final, is_newcomer, find_block}
use Rattle.rulebook.specs.Cards.{leader, most, recount}
use Rattle.rulebook.specs.Run.{first_rule}
use Rattle.rulebook.specs.WellFormed.{in_order, kept_fits, blocks_apart, blocks_fit}
use Rattle.rule_laws.proofs.ToolLaws.{choose_off, and_both, both_and, or_cases, or_none, by_test, true_not_false, some_each, some_find}
use Rattle.rule_laws.proofs.WeightLaws.{reaches_fewer}
use Rattle.rule_laws.proofs.LowestLaws.{named_off, lower_off, lowest_none, lowest_skip, lowest_take}
use Rattle.rule_laws.proofs.CertificateLaws.{some_place, kept_name}
use Rattle.pool.specs.Weighing.{named_holds}
use Rattle.parents.specs.Naming.{some_kept_holds}
use Rattle.parents.proofs.AnyLaws.{certifiable_named}
use Rattle.parents.proofs.FewLaws.{few_held}
use Rattle.parents.proofs.ReadyLaws.{any_later, none_more, cut_ready}
use Rattle.recounting.proofs.Using.{reached_one, reached_two, newcomer_lead}
use Rattle.record.specs.Tabled.{Tabled}
use Rattle.looks.specs.Looks.{Bounds, is_short}
use Rattle.looks.proofs.Beside.{short_names}
use Rattle.record.proofs.BlockPlaces.{some_first}
use Rattle.finality.proofs.FinalLaws.{F-off, G-halts}
use Rattle.rules.proofs.RuleLaws.{A-off, A-none}
use Rattle.dormancy.specs.Dormant.{is_idle, seeks_parent, is_bare, names_kept, leads_anew, is_dormant}
use Rattle.dormancy.proofs.SlotLaws.{pass, only_a, only_f, only_g, bare_quiet}

-- ---- an idle slot makes no parent ready

-- Where no place for certificates names a block, the blocks are those that votes name.
kept_nameless : (qs : List Kept) (bs : List ℕ) → some_to (length qs) (λ n. not (none (get_or qs n no_kept).block)) ≡ false → kept_names qs bs ≡ bs
unfolding kept_names
kept_nameless [] bs e = refl
kept_nameless (q ∷ qs) bs e =
    let f : ℕ → Bool = λ n. not (none (get_or (q ∷ qs) n no_kept).block) in
    let h = or_none (not (none q.block)) (some_to (length qs) (λ n. f (suc n))) (sym (some_first (length qs) f) ∙ e) in
    named_off q.block (kept_names qs bs) (not-false (none q.block) h.0) ∙ kept_nameless qs bs h.1

-- Nor does one of them hold anything.
pub kept_unheld : (p : ℕ → Bool) (qs : List Kept) → some_to (length qs) (λ n. not (none (get_or qs n no_kept).block)) ≡ false → some_kept_holds p qs ≡ false
unfolding some_kept_holds named_holds
kept_unheld p qs e =
    let f : ℕ → Bool = λ n. not (none (get_or qs n no_kept).block) && p (get_or qs n no_kept).block in
    by_test (some_to (length qs) f)
    (λ t.
    let r = some_find (length qs) f t in
    true_not_false (not (none (get_or qs r.0 no_kept).block)) (and_both (not (none (get_or qs r.0 no_kept).block)) (p (get_or qs r.0 no_kept).block) r.2).0
    (some_each (length qs) r.0 (λ n. not (none (get_or qs n no_kept).block)) e r.1))
    (λ t. t)

module _ (l : Ledger) (q : ℕ) (looks : List ℕ) (b : Bounds l looks) (e : is_idle l looks q ≡ true) where
  pub idle_parts : (is_short l looks q ≡ true) × (names_kept l q ≡ false) × (held l certificate.Skip q 0 ≡ false)
  unfolding is_idle
  idle_parts =
      let h = and_both (is_short l looks q) (not (names_kept l q) && not (held l certificate.Skip q 0)) e in
      let g = and_both (not (names_kept l q)) (not (held l certificate.Skip q 0)) h.1 in
      (h.0, not-true (names_kept l q) g.0, not-true (held l certificate.Skip q 0) g.1)

  no_blocks : any_of (held l certificate.NotarFallback q) (certifiable l q) ≡ false
  unfolding names_kept
  no_blocks =
      let k = kept_unheld (held l certificate.NotarFallback q) (certificates_at l q) idle_parts.1 in
      certifiable_named l q (held l certificate.NotarFallback q) k ∙ few_held l q k (short_names l q looks b idle_parts.0)

  pub unready : (s : ℕ) → 1 ≤ q → s ≡ q + 1 → some_ready l s ≡ false
  unready s low t =
      cut_ready l s q (omega arith)
      (none_more l s q (omega arith) (λ i a b. absurd (omega arith)) (any_later l q low ∙ no_blocks) (λ i a b. absurd (omega arith)))
      idle_parts.2

-- ---- where no kept certificate names a block, and the leader is the slot's final block or has less than 60, there is no newcomer

module _ (l : Ledger) (s : ℕ) (k : Tabled l) (nameless : names_kept l s ≡ false) where
  -- no kept certificate serves for a block
  unserved : (c : CertificateKind) (b : ℕ) → (b ≡ 0 → ⊥) → kept_as l c s b ≡ false
  unfolding kept_as is_for names_kept any_of
  unserved c b ne =
      let qs = certificates_at l s in
      by_test (kept_as l c s b)
      (λ t.
      let r = some_place (λ i q. serves_as (place_kind i) c && eqb q.block b) 0 qs t in
      let named = kept_name qs [] r.0 b (eqb-true (get_or qs r.0 no_kept).block b (and_both (serves_as (place_kind (0 + r.0)) c) (eqb (get_or qs r.0 no_kept).block b) r.2).1) (ne_eqb b 0 ne) in
      true_not_false (any_of (eqb b) (kept_names qs [])) named (ap (any_of (eqb b)) (kept_nameless qs [] nameless)))
      (λ t. t)

  -- a block that is final reaches 60 as the leader
  final_reaches : (b : ℕ) → 1 ≤ b → is_final l s b ≡ true → reaches 3 l.total (most l s) ≡ true
  unfolding is_final held
  final_reaches b h e =
      let ne : b ≡ 0 → ⊥ = λ z. omega arith in
      or_cases (reached l certificate.FastFinal s b || kept_as l certificate.FastFinal s b) _ e
      (λ t.
      or_cases (reached l certificate.FastFinal s b) (kept_as l certificate.FastFinal s b) t
      (λ u. reaches_fewer 3 4 l.total (most l s) (omega arith) (and_both (eqb (leader l s) b) _ (sym (reached_one l s k.sum k.some b h) ∙ u)).1)
      (λ u. true_not_false (kept_as l certificate.FastFinal s b) u (unserved certificate.FastFinal b ne)))
      (λ t.
      or_cases (reached l certificate.Notar s b) (kept_as l certificate.Notar s b) (and_both (reached l certificate.Notar s b || kept_as l certificate.Notar s b) _ t).0
      (λ u. (and_both (eqb (leader l s) b) _ (sym (reached_two l s k.sum k.some b h) ∙ u)).1)
      (λ u. true_not_false (kept_as l certificate.Notar s b) u (unserved certificate.Notar b ne)))

  nobody_new : leads_anew l s ≡ false → lowest (is_newcomer l s) (certifiable l s) ≡ 0
  unfolding leads_anew is_newcomer names_kept
  nobody_new e =
      let p : ℕ → Bool = λ b. is_final l s b && not (eqb b (row_at l s).final) in
      let m = leader l s in
      let few : lowest p (certifiable l s) ≡ lowest p (named m []) = newcomer_lead l s k.sum k.some ∙ ap (lowest p) (kept_nameless (certificates_at l s) (named m []) nameless) in
      by_test (eqb m 0) (λ t. few ∙ lowest_skip m [] p (eqb-true m 0 t) ∙ lowest_none p)
      (λ t.
      let ne = eqb-false m 0 t in
      by_test (p m)
      (λ u.
      let h = and_both (is_final l s m) (not (eqb m (row_at l s).final)) u in
      true_not_false (not (eqb m (row_at l s).final) && reaches 3 l.total (most l s))
      (both_and (not (eqb m (row_at l s).final)) (reaches 3 l.total (most l s)) h.1 (final_reaches m (positive m ne) h.0)) e)
      (λ u. few ∙ lowest_take m [] p ne ∙ ap (λ (x : Bool). lower x m (lowest p [])) u ∙ lower_off m (lowest p []) ∙ lowest_none p))
    where
      positive : (x : ℕ) → (x ≡ 0 → ⊥) → 1 ≤ x
      positive zero f = absurd (f refl)
      positive (suc x) f = omega arith

-- ---- where the first place for a block is empty, all are, since they are filled from the front: the walk finds no block

behind_free : (y : ℕ) → in_order 0 y ≡ true → none y ≡ true
unfolding in_order
behind_free y e = or_cases (none y) false e (λ t. t) (λ t. true_not_false false t refl)

find_behind : (b : ℕ) (ks : List Block) → all_blocks (λ j. in_order 0 j.number) ks ≡ true → find_block b ks ≡ no_block
unfolding all_blocks find_block
find_behind b [] e = refl
find_behind b (j ∷ js) e =
    let h = and_both (in_order 0 j.number) (all_blocks (λ i. in_order 0 i.number) js) e in
    choose_off (not (is_free j) && has_number b j) j (find_block b js) (ap (λ (x : Bool). not x && has_number b j) (behind_free j.number h.0)) ∙ find_behind b js h.1

find_none : (b : ℕ) (ks : List Block) → blocks_apart ks ≡ true → none (get_or ks 0 no_block).number ≡ true → find_block b ks ≡ no_block
unfolding blocks_apart find_block
find_none b [] e f = refl
find_none b (j ∷ js) e f =
    let h = and_both (all_blocks (λ i. in_order j.number i.number) js) (blocks_apart js) e in
    choose_off (not (is_free j) && has_number b j) j (find_block b js) (ap (λ (x : Bool). not x && has_number b j) f)
    ∙ find_behind b js (ap (λ (x : ℕ). all_blocks (λ i. in_order x i.number) js) (sym (eqb-true j.number 0 f)) ∙ h.0)

-- ---- what the card tells of a slot's votes

module _ (l : Ledger) (s : ℕ) (k : Tabled l) (t : Tally) (card : t ≡ recount l s) where
  leader_is : t.leader ≡ leader l s
  unfolding recount
  leader_is = ap (λ (x : Tally). x.leader) card

  -- the leader is not the slot's final block, and what it has is asked of the card
  pub leads_final : (f : ℕ) → f ≡ (row_at l s).final → t.leader ≡ f → false ≡ leads_anew l s
  unfolding leads_anew
  leads_final f e z = sym (ap (λ (x : Bool). not x && reaches 3 l.total (most l s)) (eq-eqb (leader l s) (row_at l s).final (sym leader_is ∙ z ∙ e)))

  pub leads_other : (f : ℕ) (x : Bool) → f ≡ (row_at l s).final → (t.leader ≡ f → ⊥) → x ≡ reaches 3 l.total (most l s) → x ≡ leads_anew l s
  unfolding leads_anew
  leads_other f x e ne h =
      h ∙ sym (ap (λ (y : Bool). not y && reaches 3 l.total (most l s)) (ne_eqb (leader l s) (row_at l s).final (λ z. ne (leader_is ∙ z ∙ sym e))))

-- ---- what the look at a slot before a window tells

module _ (l : Ledger) (looks : List ℕ) (s : ℕ) (a : Bool) (short : a ≡ is_short l looks s) where
  pub idle_long : a ≡ false → false ≡ is_idle l looks s
  unfolding is_idle
  idle_long e = λ k. (sym e ∙ short) k && (not (names_kept l s) && not (held l certificate.Skip s 0))

  module _ (n : Bool) (named : n ≡ names_kept l s) (e : a ≡ true) where
    pub idle_named : n ≡ true → false ≡ is_idle l looks s
    unfolding is_idle
    idle_named f = λ k. (sym e ∙ short) k && (not ((sym f ∙ named) k) && not (held l certificate.Skip s 0))

    pub idle_skipped : (x : Bool) → n ≡ false → x ≡ held l certificate.Skip s 0 → not x ≡ is_idle l looks s
    unfolding is_idle
    idle_skipped x f h = ap not h ∙ (λ k. (sym e ∙ short) k && (not ((sym f ∙ named) k) && not (held l certificate.Skip s 0)))

-- ---- no rule applies in a dormant slot

module _ (o : State) (looks : List ℕ) (bounds : Bounds o.ledger looks) (s : ℕ) (low : 1 ≤ s) (k : Tabled o.ledger) where
  abbrev may_arm : Bool
  may_arm = is_first s && not (is_armed o.ledger s)

  parentless : seeks_parent o.ledger looks s ≡ false → rule_a o s ≡ o
  unfolding seeks_parent
  parentless e =
      by_test may_arm
      (λ t.
      let idle = is_idle o.ledger looks (s - 1) in
      let h = or_none (eqb s 1) (not idle) ((λ k. sym t k && (eqb s 1 || not idle)) ∙ e) in
      A-none o s t (unready o.ledger (s - 1) looks bounds (not-false idle h.1) s (omega (arith, eqb-false s 1 h.0)) (omega arith)))
      (A-off o s)

  module _ (fits : blocks_fit o.ledger s (blocks_at o.ledger s) ≡ true) where
    no_walk : none (first_block o.ledger s).number ≡ true → rule_g o s ≡ o
    unfolding blocks_fit
    no_walk e =
        let bs = blocks_at o.ledger s in
        G-halts o s low no_block (sym (find_none (row_at o.ledger s).final bs (and_both (all_blocks (kept_fits o.ledger s) bs) (blocks_apart bs) fits).1 e)) refl

    pub dormant_quiet : is_dormant o.ledger looks s ≡ true → first_rule 7 0 o s ≡ o
    unfolding is_dormant is_bare
    dormant_quiet e =
        let l = o.ledger in
        let h = and_both (not (seeks_parent l looks s)) ((not (names_kept l s) && is_bare l s) && not (leads_anew l s)) e in
        let i = and_both (not (names_kept l s) && is_bare l s) (not (leads_anew l s)) h.1 in
        let f = and_both (not (names_kept l s)) (is_bare l s) i.0 in
        let none-new = nobody_new l s k (not-true (names_kept l s) f.0) (not-true (leads_anew l s) i.1) in
        pass o s 1 6 0 (sym (only_a o s) ∙ parentless (not-true (seeks_parent l looks s) h.0))
        ∙ pass o s 4 2 1 (bare_quiet o s f.1)
        ∙ pass o s 1 1 5 (sym (only_f o s) ∙ F-off o s (eq-eqb _ 0 none-new))
        ∙ sym (only_g o s)
        ∙ no_walk (and_both (no_initial (own_cell l s)) (none (first_block l s).number) f.1).1

-- ---- the look at a slot, as code goes through it

module _ (l : Ledger) (looks : List ℕ) (s : ℕ) (a : Bool) (arms : a ≡ (is_first s && not (is_armed l s))) where
  pub seeks_off : a ≡ false → false ≡ seeks_parent l looks s
  unfolding seeks_parent
  seeks_off e = λ k. (sym e ∙ arms) k && (eqb s 1 || not (is_idle l looks (s - 1)))

  pub seeks_genesis : a ≡ true → s ≡ 1 → true ≡ seeks_parent l looks s
  unfolding seeks_parent
  seeks_genesis e z = λ k. (sym e ∙ arms) k && (sym (eq-eqb s 1 z) k || not (is_idle l looks (s - 1)))

  pub seeks_idle : a ≡ true → (s ≡ 1 → ⊥) → (x : Bool) → x ≡ is_idle l looks (s - 1) → not x ≡ seeks_parent l looks s
  unfolding seeks_parent
  seeks_idle e ne x h = ap not h ∙ (λ k. (sym e ∙ arms) k && (sym (ne_eqb s 1 ne) k || not (is_idle l looks (s - 1))))

-- Something for A: not dormant. Else a kept name or something of the own: not dormant. Else the leader decides.
module _ (l : Ledger) (looks : List ℕ) (s : ℕ) (a : Bool) (seeks : a ≡ seeks_parent l looks s) where
  abbrev rest : Bool
  rest = (not (names_kept l s) && is_bare l s) && not (leads_anew l s)

  looked : (not a && rest) ≡ is_dormant l looks s
  unfolding is_dormant
  looked = λ k. not (seeks k) && rest

  pub look_seeks : a ≡ true → false ≡ is_dormant l looks s
  look_seeks e = ap (λ (x : Bool). not x && rest) (sym e) ∙ looked

  module _ (e : a ≡ false) (n b : Bool) (named : n ≡ names_kept l s) (bare : b ≡ is_bare l s) where
    passed : rest ≡ is_dormant l looks s
    passed = ap (λ (x : Bool). not x && rest) (sym e) ∙ looked

    parts : ((not n && b) && not (leads_anew l s)) ≡ rest
    parts = λ k. (not (named k) && bare k) && not (leads_anew l s)

    pub look_busy : (n || not b) ≡ true → false ≡ is_dormant l looks s
    look_busy t = ap (λ (x : Bool). x && not (leads_anew l s)) (busy n b t) ∙ parts ∙ passed
      where
        busy : (x y : Bool) → (x || not y) ≡ true → false ≡ (not x && y)
        busy true y u = refl
        busy false true u = u
        busy false false u = refl

    pub look_led : (x : Bool) → (n || not b) ≡ false → x ≡ leads_anew l s → not x ≡ is_dormant l looks s
    look_led x t h = ap not h ∙ ap (λ (y : Bool). y && not (leads_anew l s)) (free n b t) ∙ parts ∙ passed
      where
        free : (y z : Bool) → (y || not z) ≡ false → true ≡ (not y && z)
        free true z u = u
        free false true u = refl
        free false false u = u
