-- Behind a stored vote in a ledger at rest only C to F of its slot can apply, where it is calm behind it. Assumes nothing.
use mathlib.Core.Path.{◌≡◌, refl, sym, ap, ◌∙◌, subst}
use mathlib.Core.Bool.{Bool, true, false, not, ◌&&◌, ◌||◌}
use mathlib.Core.List.{List, [], ◌∷◌}
use Prim.Native.Nat.{ℕ, zero, suc, ◌+◌, ◌-◌, ◌≤◌, ◌<◌}
use native.Mathlib.Omega.{arith}
use native.Mathlib.Numerals.{add-one}
use lib.ListN.{length, get_or}
use lib.Dec.{eqb, ltb, leb}
use borrow.Author.Tests.{eqb-true, eqb-false, eq-eqb, ne_eqb, ltb-true, ltb-false, not-true, not-false}
use Rattle.rulebook.specs.declared.Block.{Block}
use Rattle.rulebook.specs.Tools.{lowest}
use Rattle.rulebook.specs.Weights.{is_first, last_slot}
use Rattle.rulebook.specs.Ledger.{Ledger, Row, none, no_cell, row_at, own_cell, blocks_at, first_block, is_watcher, put_row, put_final, put_clash}
use Rattle.rulebook.specs.declared.CertificateKind.TheVariants as certificate
use Rattle.rulebook.specs.Pool.{held, certifiable, some_ready}
use Rattle.rulebook.specs.WellFormed.{blocks_fit}
use Rattle.record.specs.Tabled.{Tabled}
use Rattle.settling.proofs.FactLaws.{formed}
use lib.Arith.{lt_of_le-ne}
use Rattle.rulebook.specs.Rules.{Record, State, state_of, report, rule_a, rule_b, rule_c, rule_d, rule_e, rule_f, rule_g, is_newcomer, tell_clash, tell_final, find_block, parent_fits, fallback_block}
use Rattle.rulebook.specs.Run.{made, rule_at, first_rule, first_slot, scan, run_for, run}
use Rattle.rule_laws.proofs.ToolLaws.{by_test, true_not_false, or_none}
use Rattle.settling.specs.Facts.{Sound}
use Rattle.settling.specs.Spare.{spare}
use Rattle.settling.specs.Steps.{Settled, Came, WalkParent}
use Rattle.settling.proofs.RunLaws.{passed_over, rule_a_lem, rule_b_lem, rule_c_lem, rule_d_lem, rule_e_lem, rule_f_lem, rule_g_lem, rule_end, slot_step, slot_stop, slot_end, scan_is, run_is, run_step, run_stop}
use Rattle.settling.proofs.SpareLaws.{spare_most}
use Rattle.settling.proofs.Sounding.{sound_final}
use Rattle.settling.proofs.Spending.{came_more, tell_comes, rule_comes, rules_come, scan_comes}
use Rattle.progress.proofs.Grows.{grows_not}
use Rattle.finality.proofs.FinalLaws.{clash_on, clash_off, final_first, final_same, final_other, F-on, F-off, G-halts, G-stops, G-on, walk_to_lem}
use Rattle.dormancy.proofs.SlotLaws.{rules_on, rules_off, pass, one_rule}
use Rattle.stirring.proofs.Later.{some_in, fits_in, block_in}
use Rattle.stirring.specs.Touched.{OthersVote, Calm, Touched}
use Rattle.stirring.proofs.Elsewhere.{held_other, same_blocks, same_final, same_clash, same_own, same_first, A-stays, B-stays, C-stays, D-stays, E-stays, newcomer_stays}

-- ---- telling of a final block

-- What is told where nothing was: nothing.
tell_stays : (o p : State) (s b : ℕ) → (row_at p.ledger s).final ≡ (row_at o.ledger s).final → (row_at p.ledger s).clash ≡ (row_at o.ledger s).clash
    → tell_final o s b ≡ o → tell_final p s b ≡ p
tell_stays o p s b f c e =
    let mark = (row_at o.ledger s).final in
    by_test (none mark)
    (λ t. absurd (grows_not o (report o (put_final o.ledger s b) 6 s b) (omega arith) (sym (final_first o s b t) ∙ e)))
    (λ t.
    by_test (eqb mark b)
    (λ u. final_same p s b (ap none f ∙ t) (ap (λ (x : ℕ). eqb x b) f ∙ u))
    (λ u.
    final_other p s b (ap none f ∙ t) (ap (λ (x : ℕ). eqb x b) f ∙ u)
    ∙ by_test (none (row_at o.ledger s).clash)
    (λ v. absurd (grows_not o (report o (put_clash o.ledger s) 8 s b) (omega arith) (sym (clash_on o s b v) ∙ sym (final_other o s b t u) ∙ e)))
    (λ v. clash_off p s b (ap none c ∙ v))))

-- ---- the walk

module _ (l m : Ledger) (rs : List Record) (h : Sound l) (k : Sound m) (blocks : (t : ℕ) → blocks_at m t ≡ blocks_at l t)
    (final : (t : ℕ) → (row_at m t).final ≡ (row_at l t).final) (clash : (t : ℕ) → (row_at m t).clash ≡ (row_at l t).clash) where
  abbrev o : State
  o = state_of l rs

  abbrev p : State
  p = state_of m rs

  module _ (t : ℕ) (low : 1 ≤ t) (high : t ≤ last_slot) (below : (q : ℕ) → 1 ≤ q → q < t → rule_g p q ≡ p) (e : rule_g o t ≡ o) where
    abbrev b : Block
    b = find_block (row_at l t).final (blocks_at l t)

    found : b ≡ find_block (row_at m t).final (blocks_at m t)
    found i = find_block (sym (final t) i) (sym (blocks t) i)

    abbrev q : ℕ
    q = b.parentslot.0

    abbrev told : State
    told = tell_final o q b.parent

    module _ (lower : (eqb q 0 || leb t q) ≡ false) where
      to : WalkParent t q b.parent
      to = walk_to_lem o t low b refl h high lower

      came : Came o told
      came = tell_comes o h q to.low to.high b.parent to.number

      onward : made told ≤ made (rule_g told q)
      onward = came_more told (rule_g told q) (subst (Came told) (rule_g_lem told q) (rule_comes told came.sound q to.low to.high 6))

      -- no record is lost behind the first step, so that it told nothing
      told_within : made told ≤ made (rule_g o t)
      told_within =
          by_test (eqb (row_at told.ledger q).final b.parent)
          (λ u. omega (arith, ap made (G-on o t low b refl lower u), onward))
          (λ u. omega (arith, ap made (G-stops o t low b refl lower u)))

      told_nothing : told ≡ o
      told_nothing = came.still (omega (arith, told_within, ap made e, came_more o told came))

      walks : rule_g p t ≡ p
      walks =
          let d = tell_stays o p q b.parent (final q) (clash q) told_nothing in
          by_test (eqb (row_at (tell_final p q b.parent).ledger q).final b.parent)
          (λ u. G-on p t low b found lower u ∙ ap (λ (x : State). rule_g x q) d ∙ below q to.low to.lower)
          (λ u. G-stops p t low b found lower u ∙ d)

    walk_stays : rule_g p t ≡ p
    walk_stays = by_test (eqb q 0 || leb t q) (λ u. G-halts p t low b found u) walks

  module _ (quiet : (t : ℕ) → 1 ≤ t → t ≤ last_slot → rule_g o t ≡ o) where
    walk_upto : (n t : ℕ) → t < n → 1 ≤ t → t ≤ last_slot → rule_g p t ≡ p
    walk_upto zero t a low high = absurd (omega arith)
    walk_upto (suc n) t a low high = walk_stays t low high (λ q c d. walk_upto n q (omega arith) c (omega arith)) (quiet t low high)

    pub G-stays : (t : ℕ) → 1 ≤ t → t ≤ last_slot → rule_g p t ≡ p
    G-stays t low high = walk_upto (suc t) t (omega arith) low high

-- ---- F

F-stays : (o p : State) (t : ℕ) → (row_at p.ledger t).final ≡ (row_at o.ledger t).final → (row_at p.ledger t).clash ≡ (row_at o.ledger t).clash
    → lowest (is_newcomer p.ledger t) (certifiable p.ledger t) ≡ lowest (is_newcomer o.ledger t) (certifiable o.ledger t) → rule_f o t ≡ o → rule_f p t ≡ p
F-stays o p t f c n e =
    let b = lowest (is_newcomer o.ledger t) (certifiable o.ledger t) in
    by_test (none b) (λ u. F-off p t (ap none n ∙ u))
    (λ u. F-on p t (ap none n ∙ u) ∙ ap (tell_final p t) n ∙ tell_stays o p t b f c (sym (F-on o t u) ∙ e))

-- ---- a row exchanged in a ledger at rest

module _ (l : Ledger) (rs : List Record) (s : ℕ) (r : Row) (low : 1 ≤ s) (high : s ≤ last_slot) (h : Sound l) (k : Sound (put_row l s r)) (v : OthersVote l s r)
    (rest : Settled (state_of l rs)) where
  abbrev was : State
  was = state_of l rs

  abbrev now : State
  now = state_of (put_row l s r) rs

  module _ (t : ℕ) (a : 1 ≤ t) (b : t ≤ last_slot) where
    -- A rule that votes, of a watcher and of others.
    votes : (n : ℕ) (rule : State → ℕ → State) → 1 ≤ n → n ≤ 4 → (is_watcher l ≡ false → rule_at n was t ≡ rule was t) → (is_watcher l ≡ false → rule_at n now t ≡ rule now t)
        → (rule was t ≡ was → rule now t ≡ now) → rule_at n now t ≡ now
    unfolding is_watcher
    votes n rule c d f g st =
        by_test (is_watcher l) (λ w. passed_over now t w n c d) (λ w. g w ∙ st (sym (f w) ∙ rest.same n t a b))

    pub quiet_a : (some_ready (put_row l s r) t ≡ true → some_ready l t ≡ true) → rule_at 0 now t ≡ now
    quiet_a e = rule_a_lem now t ∙ A-stays l s r v.inside v.blocks v.final v.clash v.mine rs t e (sym (rule_a_lem was t) ∙ rest.same 0 t a b)

    pub quiet_b : (none (first_block l t).number ≡ false → parent_fits (put_row l s r) t (is_first t) (first_block l t) ≡ true → parent_fits l t (is_first t) (first_block l t) ≡ true) → rule_at 1 now t ≡ now
    unfolding is_watcher
    quiet_b e = votes 1 rule_b (omega arith) (omega arith) (rule_b_lem was t) (rule_b_lem now t) (B-stays l s r v.inside v.blocks v.final v.clash v.mine rs t e)

    pub quiet_d : (none (fallback_block (put_row l s r) t) ≡ false → none (fallback_block l t) ≡ false) → rule_at 3 now t ≡ now
    unfolding is_watcher
    quiet_d e = votes 3 rule_d (omega arith) (omega arith) (rule_d_lem was t) (rule_d_lem now t) (D-stays l s r v.inside v.blocks v.final v.clash v.mine rs t e)

    module _ (ne : t ≡ s → ⊥) where
      pub quiet_c : rule_at 2 now t ≡ now
      unfolding is_watcher
      quiet_c = votes 2 rule_c (omega arith) (omega arith) (rule_c_lem was t) (rule_c_lem now t) (C-stays l s r v.inside v.blocks v.final v.clash v.mine rs t ne)

      pub quiet_e : rule_at 4 now t ≡ now
      unfolding is_watcher
      quiet_e = votes 4 rule_e (omega arith) (omega arith) (rule_e_lem was t) (rule_e_lem now t) (E-stays l s r v.inside v.blocks v.final v.clash v.mine rs t ne)

      pub quiet_f : rule_at 5 now t ≡ now
      quiet_f =
          rule_f_lem now t
          ∙ F-stays was now t (same_final l s r v.inside v.blocks v.final v.clash v.mine t) (same_clash l s r v.inside v.blocks v.final v.clash v.mine t)
          (newcomer_stays l s r v.inside v.blocks v.final v.clash v.mine rs t ne) (sym (rule_f_lem was t) ∙ rest.same 5 t a b)

    pub quiet_g : rule_at 6 now t ≡ now
    quiet_g =
        rule_g_lem now t
        ∙ G-stays l (put_row l s r) rs h k (same_blocks l s r v.inside v.blocks v.final v.clash v.mine) (same_final l s r v.inside v.blocks v.final v.clash v.mine)
        (same_clash l s r v.inside v.blocks v.final v.clash v.mine) (λ q c d. sym (rule_g_lem was q) ∙ rest.same 6 q c d) t a b

  -- ---- slots up to s look at rows that stayed

  module _ (table : Tabled l) where
    module _ (t : ℕ) (a : 1 ≤ t) (b : t ≤ s) where
      three_below : (q x : ℕ) → q < t → none x ≡ false → held (put_row l s r) certificate.NotarFallback q x ≡ true → held l certificate.NotarFallback q x ≡ true
      three_below q x c z e = sym (held_other l s r q (λ i. omega arith) certificate.NotarFallback x) ∙ e

      four_below : (q : ℕ) → q < t → held (put_row l s r) certificate.Skip q 0 ≡ true → held l certificate.Skip q 0 ≡ true
      four_below q c e = sym (held_other l s r q (λ i. omega arith) certificate.Skip 0) ∙ e

      fits : blocks_fit l t (blocks_at l t) ≡ true
      fits = ((formed l h.formed).rows t a (omega arith)).blocks

      below_a : rule_at 0 now t ≡ now
      below_a = quiet_a t a (omega arith) (some_in l s r table t three_below four_below)

      below_b : rule_at 1 now t ≡ now
      below_b = quiet_b t a (omega arith) (fits_in l s r table t three_below four_below v.inside v.blocks v.final v.clash v.mine fits)

      below_d : (t ≡ s → ⊥) → rule_at 3 now t ≡ now
      below_d ne = quiet_d t a (omega arith) (block_in l s r table t three_below four_below v.inside v.blocks v.final v.clash v.mine fits ne)

    -- ---- slots behind s, where it holds no more for parents

    module _ (three : (x : ℕ) → none x ≡ false → held (put_row l s r) certificate.NotarFallback s x ≡ true → held l certificate.NotarFallback s x ≡ true)
        (four : held (put_row l s r) certificate.Skip s 0 ≡ true → held l certificate.Skip s 0 ≡ true) where
      three_in : (q x : ℕ) → none x ≡ false → held (put_row l s r) certificate.NotarFallback q x ≡ true → held l certificate.NotarFallback q x ≡ true
      three_in q x z e =
          by_test (eqb q s)
          (λ u.
          let is = eqb-true q s u in
          ap (λ (i : ℕ). held l certificate.NotarFallback i x) is ∙ three x z (ap (λ (i : ℕ). held (put_row l s r) certificate.NotarFallback i x) (sym is) ∙ e))
          (λ u. sym (held_other l s r q (eqb-false q s u) certificate.NotarFallback x) ∙ e)

      four_in : (q : ℕ) → held (put_row l s r) certificate.Skip q 0 ≡ true → held l certificate.Skip q 0 ≡ true
      four_in q e =
          by_test (eqb q s)
          (λ u.
          let is = eqb-true q s u in
          ap (λ (i : ℕ). held l certificate.Skip i 0) is ∙ four (ap (λ (i : ℕ). held (put_row l s r) certificate.Skip i 0) (sym is) ∙ e))
          (λ u. sym (held_other l s r q (eqb-false q s u) certificate.Skip 0) ∙ e)

      behind_fits : (t : ℕ) → s < t → t ≤ last_slot → blocks_fit l t (blocks_at l t) ≡ true
      behind_fits t a b = ((formed l h.formed).rows t (omega arith) b).blocks

      pub calm_behind : Calm (put_row l s r) rs s
      calm_behind =
          record {
            A = λ t a b. quiet_a t (omega arith) b (some_in l s r table t (λ q x _. three_in q x) (λ q _. four_in q));
            B = λ t a b.
                quiet_b t (omega arith) b
                (fits_in l s r table t (λ q x _. three_in q x) (λ q _. four_in q) v.inside v.blocks v.final v.clash v.mine (behind_fits t a b));
            D = λ t a b.
                quiet_d t (omega arith) b
                (block_in l s r table t (λ q x _. three_in q x) (λ q _. four_in q) v.inside v.blocks v.final v.clash v.mine (behind_fits t a b) (λ i. omega arith));
          }

    -- ---- the scan

    seven : (t : ℕ) → ((n : ℕ) → n < 7 → rule_at n now t ≡ now) → first_rule 7 0 now t ≡ now
    seven t f =
        pass now t 1 6 0 (one_rule 0 now t ∙ f 0 (omega arith))
        ∙ pass now t 1 5 1 (one_rule 1 now t ∙ f 1 (omega arith))
        ∙ pass now t 1 4 2 (one_rule 2 now t ∙ f 2 (omega arith))
        ∙ pass now t 1 3 3 (one_rule 3 now t ∙ f 3 (omega arith))
        ∙ pass now t 1 2 4 (one_rule 4 now t ∙ f 4 (omega arith))
        ∙ pass now t 1 1 5 (one_rule 5 now t ∙ f 5 (omega arith))
        ∙ one_rule 6 now t
        ∙ f 6 (omega arith)

    each : (t : ℕ) → 1 ≤ t → t ≤ last_slot → (t ≡ s → ⊥) → rule_at 0 now t ≡ now → rule_at 1 now t ≡ now → rule_at 3 now t ≡ now → first_rule 7 0 now t ≡ now
    each t a b ne x y z = seven t go
      where
        go : (n : ℕ) → n < 7 → rule_at n now t ≡ now
        go zero i = x
        go (suc zero) i = y
        go (suc (suc zero)) i = quiet_c t a b ne
        go (suc (suc (suc zero))) i = z
        go (suc (suc (suc (suc zero)))) i = quiet_e t a b ne
        go (suc (suc (suc (suc (suc zero))))) i = quiet_f t a b ne
        go (suc (suc (suc (suc (suc (suc zero)))))) i = quiet_g t a b
        go (suc (suc (suc (suc (suc (suc (suc n))))))) i = absurd (omega arith)

    before_slots : (n t i : ℕ) → t + n ≡ s → 1 ≤ t → i ≡ (17 - s) + n → first_slot i t now ≡ first_slot (17 - s) s now
    before_slots zero t i e a j =
        let x : t ≡ s = omega arith in
        let y : i ≡ 17 - s = omega arith in
        (λ k. first_slot (y k) (x k) now)
    before_slots (suc n) t i e a j =
        let quiet = each t a (omega arith) (λ q. omega arith) (below_a t a (omega arith)) (below_b t a (omega arith)) (below_d t a (omega arith) (λ q. omega arith)) in
        slot_step now (first_rule 7 0 now t) t i ((17 - s) + n) (omega arith) refl (ap made quiet)
        ∙ ap (first_slot ((17 - s) + n) (t + 1)) quiet
        ∙ before_slots n (t + 1) ((17 - s) + n) (omega arith) (omega arith) refl

    module _ (calm : Calm (put_row l s r) rs s) where
      behind_slots : (n t : ℕ) → t + n ≡ 17 → s < t → first_slot n t now ≡ now
      behind_slots zero t e a = slot_end now t zero refl
      behind_slots (suc n) t e a =
          let quiet = each t (omega arith) (omega arith) (λ q. omega arith) (calm.A t a (omega arith)) (calm.B t a (omega arith)) (calm.D t a (omega arith)) in
          slot_step now (first_rule 7 0 now t) t (suc n) n (sym (add-one n)) refl (ap made quiet)
          ∙ ap (first_slot n (t + 1)) quiet
          ∙ behind_slots n (t + 1) (omega arith) (omega arith)

      abbrev asked : State
      asked = first_rule 4 2 now s

      from_c : first_rule 7 0 now s ≡ first_rule 5 2 now s
      from_c =
          pass now s 1 6 0 (one_rule 0 now s ∙ below_a s low (omega arith))
          ∙ pass now s 1 5 1 (one_rule 1 now s ∙ below_b s low (omega arith))

      in_slot_lem : first_slot (17 - s) s now ≡ asked
      in_slot_lem =
          let less : 17 - s ≡ (17 - (s + 1)) + 1 = omega arith in
          by_test (eqb (made asked) (made now))
          (λ u.
          let same : asked ≡ now = (rules_come now k s low high 4 2).still (eqb-true (made asked) (made now) u) in
          let quiet : first_rule 7 0 now s ≡ now = from_c ∙ pass now s 4 1 2 same ∙ one_rule 6 now s ∙ quiet_g s low high in
          slot_step now (first_rule 7 0 now s) s (17 - s) (17 - (s + 1)) less refl (ap made quiet)
          ∙ ap (first_slot (17 - (s + 1)) (s + 1)) quiet
          ∙ behind_slots (17 - (s + 1)) (s + 1) (omega arith) (omega arith)
          ∙ sym same)
          (λ u.
          let ne = eqb-false (made asked) (made now) u in
          let all : first_rule 7 0 now s ≡ asked = from_c ∙ rules_off 4 1 2 now s ne in
          slot_stop now (first_rule 7 0 now s) s (17 - s) (17 - (s + 1)) less refl (λ q. ne (ap made (sym all) ∙ q)) ∙ all)

      -- The scan asks C to F of slot s alone.
      pub scan_narrow : scan now ≡ asked
      scan_narrow = scan_is now ∙ before_slots (s - 1) 1 16 (omega arith) (omega arith) (omega arith) ∙ in_slot_lem

    -- The walks of the slots below have nothing to tell.
    pub below_walked : (q : ℕ) → 1 ≤ q → q < s → rule_g now q ≡ now
    below_walked q a b = sym (rule_g_lem now q) ∙ quiet_g q a (omega arith)

-- ---- a run goes on from its first scan

one_more : (n : ℕ) (o : State) → Sound o.ledger → spare o.ledger < n → run_for (suc n) o ≡ run_for n o
one_more zero o h b = absurd (omega arith)
one_more (suc n) o h b =
    let p : State = scan o in
    let c = scan_comes o h in
    by_test (eqb (made p) (made o))
    (λ t.
    let e = eqb-true (made p) (made o) t in
    run_stop o p (suc (suc n)) (suc n) (sym (add-one (suc n))) refl e ∙ sym (run_stop o p (suc n) n (sym (add-one n)) refl e))
    (λ t.
    let ne = eqb-false (made p) (made o) t in
    let less : made o < made p = lt_of_le-ne (came_more o p c) (λ e. ne (sym e)) in
    run_step o p (suc (suc n)) (suc n) (sym (add-one (suc n))) refl ne
    ∙ one_more n p c.sound (omega (arith, c.spent))
    ∙ sym (run_step o p (suc n) n (sym (add-one n)) refl ne))

pub run_on : (o : State) → Sound o.ledger → (made (scan o) ≡ made o → ⊥) → run (scan o) ≡ run o
run_on o h ne =
    let p : State = scan o in
    let c = scan_comes o h in
    let less : made o < made p = lt_of_le-ne (came_more o p c) (λ e. ne (sym e)) in
    run_is p ∙ one_more 132 p c.sound (omega (arith, c.spent, spare_most o.ledger)) ∙ sym (run_is o ∙ run_step o p 133 132 refl refl ne)

-- ---- a vote was stored in a ledger at rest

module _ (m : Ledger) (rs : List Record) (s : ℕ) (stirs : Bool) (h : Touched m rs s stirs) (low : 1 ≤ s) (high : s ≤ last_slot) (k : Sound m) (t : Tabled m) where
  head : (l : Ledger) (r : Row) → Tabled (put_row l s r) → Tabled l
  head l r u = record { few = u.few; sum = u.sum; some = u.some; light = u.light }

  pub touched_narrow : stirs ≡ false → scan (state_of m rs) ≡ first_rule 4 2 (state_of m rs) s
  touched_narrow e =
      subst (λ (x : Ledger). Sound x → Tabled x → Calm x rs s → scan (state_of x rs) ≡ first_rule 4 2 (state_of x rs) s) (sym h.is)
      (λ a b c. scan_narrow h.before rs s h.row low high h.sound a h.others h.rest (head h.before h.row b) c) k t (h.calm e)

  pub touched_walked : (q : ℕ) → 1 ≤ q → q < s → rule_g (state_of m rs) q ≡ state_of m rs
  touched_walked q a b =
      subst (λ (x : Ledger). Sound x → Tabled x → rule_g (state_of x rs) q ≡ state_of x rs) (sym h.is)
      (λ c d. below_walked h.before rs s h.row low high h.sound c h.others h.rest (head h.before h.row d) q a b) k t
