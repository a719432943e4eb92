-- The ends of lives: no rule applies there, and a number is kept with one parent.
use Rattle.std.specs.Prelude.{⊤, Result, Ok, Err}
use mathlib.Core.Path.{◌≡◌, refl, sym, ap, ◌∙◌, subst}
use mathlib.Core.Bool.{true, false, not, ◌&&◌, ◌||◌}
use mathlib.Core.List.{List, [], ◌∷◌}
use mathlib.Core.Logic.{◌⊎◌, inl, inr}
use Prim.Native.Nat.{ℕ, zero, suc, ◌≤◌}
use native.Mathlib.Omega.{arith}
use lib.Dec.{T, eqb, leb, eqb→eq, eqb_refl, leb→le, nleb→lt, T_not}
use lib.ListN.{get_or-eq_default}
use Rattle.rulebook.specs.declared.Block.{Block}
use Rattle.rulebook.specs.declared.Input.{Input}
use Rattle.rulebook.specs.declared.Refusal.{Refusal}
use Rattle.rulebook.specs.Weights.{last_slot, is_first, window_of}
use Rattle.rulebook.specs.Certificates.{Certificate}
use Rattle.rulebook.specs.Ledger.{Ledger, Row, none, no_row, blank_row, table_of, fresh, row_at, is_armed, blocks_at, all_blocks, some_block, is_free, has_number, is_block, keeps_block, certificates_at}
use Rattle.rulebook.specs.Rules.{State, state_of}
use Rattle.rulebook.specs.Run.{run}
use Rattle.rulebook.specs.Inputs.{verdict, intake, Fed, fed_with, refused_with, fed_on, feed}
use Rattle.rulebook.specs.Checker.{judge}
use Rattle.rulebook.specs.Taking.{kept_verdict, keep_certificate, taken_on, taken, Arrival, of_input, of_packet, served}
use Rattle.rulebook.specs.WellFormed.{in_order, kept_fits, blocks_apart, blocks_fit, block_blank, row_blank}
use Rattle.rule_laws.proofs.ToolLaws.{and_both, or_none, true_not_false, same_test, by_test as by-case}
use Rattle.rule_laws.proofs.AcceptedLaws.{packet_cases}
use Rattle.settling.specs.Facts.{Sound}
use Rattle.settling.specs.Steps.{Settled, kind_for}
use Rattle.settling.proofs.FactLaws.{formed}
use Rattle.settling.proofs.Soundness.{served_sound}
use Rattle.settling.proofs.Life.{called_settled, taken_fine, kept_settled}
use Rattle.settling.proofs.Start.{fresh_sound}
use Rattle.watchers.specs.Watching.{is_done}
use Rattle.safety.specs.Ring.{after_all}
use Rattle.safety.proofs.Tests.{T_true, true_t, not_false, and_t, or_t, by_test}
use Rattle.safety.proofs.Lives.{life_ready, Sized, start_sized, fresh_ready}
use Rattle.progress.specs.Progress.{accepted_in, AtRest, LivesSettle, WokenArmed, OneParentEach, ParentsAlone}
use Rattle.progress.proofs.Resting.{arms}

-- ---- no rule applies

module _ (l : Ledger) (h : Sound l) where
  -- What is accepted leaves no rule that applies, and what is refused leaves the ledger as found.
  record Leaves (f : Fed) : Type 0 where
    pub rests : T (is_done f.answer) → AtRest f.ledger
    pub stays : is_done f.answer ≡ false → f.ledger ≡ l

  fed_leaves : (o : State) → Settled o → Leaves (fed_with o)
  unfolding fed_with is_done
  fed_leaves o s = record { rests = λ t. record { records = o.records; settled = s }; stays = λ e. true_not_false true refl e }

  refused_leaves : (r : Refusal) → Leaves (refused_with l r)
  unfolding refused_with is_done
  refused_leaves r = record { rests = λ t. absurd t; stays = λ e. refl }

  fed_on_leaves : (v : Result ⊤ Refusal) (i : Input) → verdict l i ≡ v → Leaves (fed_on v l i)
  unfolding fed_on
  fed_on_leaves (Ok tt) i e = fed_leaves (run (intake l i)) (called_settled l h i e)
  fed_on_leaves (Err r) i e = refused_leaves r

  taken_on_leaves : (v : Result ⊤ Refusal) (c : Certificate) → judge (table_of l) c ≡ Ok tt → kept_verdict (certificates_at l c.slot) (kind_for l c) c.block ≡ v → Leaves (taken_on v l c)
  unfolding taken_on
  taken_on_leaves (Ok tt) c j e = fed_leaves (run (state_of (keep_certificate l c) [])) (kept_settled l h c (taken_fine l h c j e))
  taken_on_leaves (Err r) c j e = refused_leaves r

  served_leaves : (c : Arrival) → Leaves (served l c)
  unfolding served feed taken
  served_leaves (of_input i) = fed_on_leaves (verdict l i) i refl
  served_leaves (of_packet bytes) =
      packet_cases Leaves l bytes refused_leaves (λ c next e j. taken_on_leaves (kept_verdict (certificates_at l c.slot) (kind_for l c) c.block) c j refl)

-- So no rule applies from the first accepted arrival on.
pub life_rests : (l : Ledger) (is : List Arrival) → Sound l → T (accepted_in l is) ⊎ AtRest l → AtRest (after_all l is)
unfolding after_all accepted_in
life_rests l [] h (inl t) = absurd t
life_rests l [] h (inr a) = a
life_rests l (i ∷ is) h x = life_rests (served l i).ledger is (served_sound l h i) (next x)
  where
    next : T (is_done (served l i).answer || accepted_in (served l i).ledger is) ⊎ AtRest l → T (accepted_in (served l i).ledger is) ⊎ AtRest (served l i).ledger
    next (inl t) =
        or_t (is_done (served l i).answer) (accepted_in (served l i).ledger is) t (λ u. inr ((served_leaves l h i).rests u)) (λ u. inl u)
    next (inr a) =
        by_test (is_done (served l i).answer) (λ u. inr ((served_leaves l h i).rests u))
        (λ u. inr (subst AtRest (sym ((served_leaves l h i).stays (not_false (is_done (served l i).answer) u))) a))

pub lives_settle : LivesSettle
lives_settle stakes own genesis e lived t = life_rests (fresh stakes own genesis) lived (fresh_sound stakes own genesis e) (inl t)

-- ---- woken

-- Before it nothing has changed.
pub life_stays : (l : Ledger) (is : List Arrival) → Sound l → accepted_in l is ≡ false → after_all l is ≡ l
unfolding after_all accepted_in
life_stays l [] h e = refl
life_stays l (i ∷ is) h e =
    let n = or_none (is_done (served l i).answer) (accepted_in (served l i).ledger is) e in
    life_stays (served l i).ledger is (served_sound l h i) n.1 ∙ (served_leaves l h i).stays n.0

fresh_unarmed : (ws : List ℕ) (me g : ℕ) → is_armed (fresh ws me g) 1 ≡ false
unfolding fresh window_of
fresh_unarmed ws me g = refl

-- Genesis is ready for slot 1.
rest_armed : (l : Ledger) → 1 ≤ l.total → AtRest l → T (is_armed l 1)
unfolding is_first
rest_armed l some rest = arms l some rest 1 0 l.genesis (omega arith) (omega arith) tt (omega arith) refl (λ t x y. absurd (omega arith))

-- Of a node or of a watcher.
pub begun_armed : (ws : List ℕ) (me g : ℕ) → Sized ws me → Sound (fresh ws me g) → (lived : List Arrival) → accepted_in (fresh ws me g) lived ≡ is_armed (after_all (fresh ws me g) lived) 1
begun_armed ws me g size h lived =
    let l = fresh ws me g in
    same_test (accepted_in l lived) (is_armed (after_all l lived) 1)
    (λ t. T_true (is_armed (after_all l lived) 1)
    (rest_armed (after_all l lived) (life_ready me l lived (fresh_ready ws me g size)).inv.some (life_rests l lived h (inl (true_t (accepted_in l lived) t)))))
    (λ t. by-case (accepted_in l lived) (λ u. u)
    (λ u. true_not_false (is_armed l 1) (ap (λ (m : Ledger). is_armed m 1) (sym (life_stays l lived h u)) ∙ t) (fresh_unarmed ws me g)))

pub woken_armed : WokenArmed
woken_armed stakes own genesis e lived = begun_armed stakes own genesis (start_sized stakes own genesis e) (fresh_sound stakes own genesis e) lived

-- ---- one parent a number

pub life_sound : (l : Ledger) (is : List Arrival) → Sound l → Sound (after_all l is)
unfolding after_all
life_sound l [] h = h
life_sound l (i ∷ is) h = life_sound (served l i).ledger is (served_sound l h i)

record Parts (b p x : ℕ) (k : Block) : Type 0 where
  pub some : T (not (none b))
  pub number : k.number ≡ b
  pub slot : k.parentslot.0 ≡ p
  pub parent : k.parent ≡ x

block_parts : (b p x : ℕ) (k : Block) → T (is_block b p x k) → Parts b p x k
unfolding is_block
block_parts b p x k t =
    let a = and_t (not (is_free k)) (has_number b k && (eqb k.parentslot.0 p && eqb k.parent x)) t in
    let c = and_t (has_number b k) (eqb k.parentslot.0 p && eqb k.parent x) a.1 in
    let d = and_t (eqb k.parentslot.0 p) (eqb k.parent x) c.1 in
    let e = eqb→eq k.number b c.0 in
    record { some = subst (λ (n : ℕ). T (not (none n))) e a.0; number = e; slot = eqb→eq k.parentslot.0 p d.0; parent = eqb→eq k.parent x d.1 }

-- A number does not stand behind itself.
not_behind : (b : ℕ) → T (not (none b)) → ¬ T (in_order b b)
unfolding in_order
not_behind b z t =
    or_t (none b) (not (none b) && not (eqb b b)) t (λ u. T_not (none b) z u)
    (λ u. T_not (eqb b b) (and_t (not (none b)) (not (eqb b b)) u).1 (eqb_refl b))

not_later : (b q y : ℕ) (ks : List Block) → all_blocks (λ j. in_order b j.number) ks ≡ true → ¬ T (some_block (is_block b q y) ks)
unfolding all_blocks some_block
not_later b q y [] e t = t
not_later b q y (k ∷ ks) e t =
    let a = and_both (in_order b k.number) (all_blocks (λ j. in_order b j.number) ks) e in
    or_t (is_block b q y k) (some_block (is_block b q y) ks) t
    (λ u. let m = block_parts b q y k u in
    not_behind b m.some (subst (λ (n : ℕ). T (in_order b n)) m.number (true_t (in_order b k.number) a.0)))
    (not_later b q y ks a.1)

-- In places where no number stands twice a number has one parent.
apart_once : (ks : List Block) → blocks_apart ks ≡ true → (b p x q y : ℕ) → T (some_block (is_block b p x) ks) → T (some_block (is_block b q y) ks) → (p ≡ q) × (x ≡ y)
unfolding blocks_apart some_block
apart_once [] e b p x q y t u = absurd t
apart_once (k ∷ ks) e b p x q y t u =
    let a = and_both (all_blocks (λ j. in_order k.number j.number) ks) (blocks_apart ks) e in
    or_t (is_block b p x k) (some_block (is_block b p x) ks) t
    (λ i. let m = block_parts b p x k i in
    or_t (is_block b q y k) (some_block (is_block b q y) ks) u
    (λ j. let o = block_parts b q y k j in (sym m.slot ∙ o.slot, sym m.parent ∙ o.parent))
    (λ j. absurd (not_later b q y ks (subst (λ (n : ℕ). all_blocks (λ d. in_order n d.number) ks ≡ true) m.number a.0) j)))
    (λ i. or_t (is_block b q y k) (some_block (is_block b q y) ks) u
    (λ j. let o = block_parts b q y k j in
    absurd (not_later b p x ks (subst (λ (n : ℕ). all_blocks (λ d. in_order n d.number) ks ≡ true) o.number a.0) i))
    (λ j. apart_once ks a.1 b p x q y i j))

-- Slot 0 keeps no block, and there is no slot past the last.
blank_keeps : (b p x : ℕ) (ks : List Block) → all_blocks block_blank ks ≡ true → ¬ T (some_block (is_block b p x) ks)
unfolding all_blocks some_block block_blank is_block
blank_keeps b p x [] e t = t
blank_keeps b p x (k ∷ ks) e t =
    let a = and_both (is_free k && (none k.parentslot.0 && none k.parent)) (all_blocks block_blank ks) e in
    or_t (is_block b p x k) (some_block (is_block b p x) ks) t
    (λ u. T_not (is_free k) (and_t (not (is_free k)) _ u).0 (true_t (is_free k) (and_both (is_free k) _ a.0).0))
    (blank_keeps b p x ks a.1)

no_slot : (b p x : ℕ) → ¬ T (some_block (is_block b p x) no_row.blocks)
unfolding no_row blank_row some_block is_block
no_slot b p x t = t

pub sound_alone : (l : Ledger) → Sound l → OneParentEach l
unfolding keeps_block row_blank blocks_fit
sound_alone l h zero b p x q y t u =
    absurd (blank_keeps b p x (blocks_at l 0) (and_both (all_blocks block_blank (blocks_at l 0)) _ (formed l h.formed).blank).0 t)
sound_alone l h (suc s) b p x q y t u =
    by_test (leb (suc s) last_slot)
    (λ z. let f = (formed l h.formed).rows (suc s) (omega arith) (leb→le (suc s) last_slot z) in
    apart_once (blocks_at l (suc s)) (and_both (all_blocks (kept_fits l (suc s)) (blocks_at l (suc s))) (blocks_apart (blocks_at l (suc s))) f.blocks).1 b p x q y t u)
    (λ z. let past : row_at l (suc s) ≡ no_row = get_or-eq_default l.rows no_row {n = suc s} (omega (arith, h.shaped.rows, nleb→lt (suc s) last_slot z)) in
    absurd (no_slot b p x (subst (λ (r : Row). T (some_block (is_block b p x) r.blocks)) past t)))

pub parents_alone : ParentsAlone
parents_alone stakes own genesis e lived = sound_alone (after_all (fresh stakes own genesis) lived) (life_sound (fresh stakes own genesis) lived (fresh_sound stakes own genesis e))
