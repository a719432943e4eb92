-- What the tests say of a window: the premises themselves.
use Rattle.std.specs.Prelude.{Ok}
use mathlib.Core.Path.{◌≡◌}
use mathlib.Core.Bool.{Bool, true, false, not, ◌&&◌, ◌||◌}
use Prim.Native.Nat.{ℕ, suc, ◌*◌, ◌≤◌, ◌<◌}
use native.Mathlib.Omega.{arith}
use lib.Dec.{T, eqb, leb, eqb_refl, leb→le, le→leb, ltb→lt, lt→ltb, T_not}
use lib.ListN.{length}
use Rattle.rulebook.specs.Tools.{choose, all_to, some_to}
use Rattle.rulebook.specs.Weights.{last_slot, window_of, weight, is_first}
use Rattle.rulebook.specs.Ledger.{Ledger, none, fresh, cell_at, row_at, is_block, first_block}
use Rattle.rulebook.specs.Pool.{ready}
use Rattle.rulebook.specs.Rules.{is_final}
use Rattle.rulebook.specs.Inputs.{start_verdict}
use Rattle.rule_laws.proofs.ToolLaws.{all_at, some_find}
use Rattle.safety.specs.Slot.{Ballot, notar, final}
use Rattle.safety.specs.Ballots.{has}
use Rattle.safety.specs.Ring.{cast_by}
use Rattle.safety.proofs.Tests.{T_true, true_t, and_t, T_and, or_t}
use Rattle.safety.proofs.Cells.{notar_is, is_notar}
use Rattle.safety.proofs.Lives.{start_sized, fresh_ready, life_stored}
use Rattle.safety.proofs.Promises.{mail_is_enough}
use Rattle.safety.proofs.Examples.{mail_ok, packets_ok}
use Rattle.progress_histories.specs.Tests.{History, honest_in, fed_in, end_in, ends, tolds, end_of, told_of, total, few_others, all_started, mail_genuine, packets_genuine, as_meant}
use Rattle.progress_histories.proofs.Tests.{within_table, told_is, at_end, few_ok, started_ok, meant}
use Rattle.finals.specs.Calm.{hasty_in}
use Rattle.finals.proofs.Finals.{fast_final, slow_final}
use Rattle.finals_histories.specs.Tests.{Window, prompt_in, block_in, each_prompt, each_slot, begins, strong_in, firsts_in, ready_in, next_in, patient_in, notars_in, finals_in, ring_in, leads_but, not_final, all_fast, all_slow, marks_other, fails_without, ring_unless, heavy_in, goes_fast, goes_slow, marks_wrong, the_strength, the_first, the_parent, the_next, the_patience, the_votes, the_finals}
use Rattle.finals_histories.specs.Histories.{RingOf, RingUnless, LedOf, AllBut, FailsWithout, GoesFast, GoesSlow, MarksWrong}

or_rest : (a b : Bool) → T (not a || b) → T a → T b
or_rest true b t u = t
or_rest false b t u = absurd u

module _ (w : Window) where
  abbrev h : History
  h = w.history

  each : (p : ℕ → Bool) → T (each_prompt w p) → (n : ℕ) → T (prompt_in w n) → T (p n)
  each p t n z = true_t (p n) (all_at w.prompt n p (T_true (each_prompt w p) t) (ltb→lt n w.prompt z))

  inside : (t : ℕ) → w.first ≤ t → t ≤ w.last → T (leb w.first t && leb t w.last)
  inside t lo hi = T_and (leb w.first t) (leb t w.last) (le→leb w.first t lo) (le→leb t w.last hi)

  slot_of : w.last ≤ last_slot → (p : ℕ → Bool) → T (each_slot w p) → (t : ℕ) → w.first ≤ t → t ≤ w.last → T (p t)
  slot_of last p x t lo hi =
      let f : ℕ → Bool = λ t. not (leb w.first t && leb t w.last) || p t in
      or_rest (leb w.first t && leb t w.last) (p t) (true_t (f t) (all_at (suc last_slot) t f (T_true (all_to (suc last_slot) f) x) (omega arith))) (inside t lo hi)

  -- What is always there: accepted starts, a first slot, and prompt nodes among those that were fed.
  record Frame : Type 0 where
    pub started : (n : ℕ) → T (prompt_in w n) → start_verdict h.stakes n (h.genesis n) ≡ Ok tt
    pub first : T (is_first w.first)
    pub last : w.last ≤ last_slot
    pub honestly : (n : ℕ) → T (prompt_in w n) → T (honest_in h n)

  frame : T (all_started h && begins w) → Frame
  unfolding begins
  frame t =
      let a = and_t (all_started h) (begins w) t in
      let e = and_t (is_first w.first) (leb w.last last_slot && leb w.prompt (length h.arrived)) a.1 in
      let f = and_t (leb w.last last_slot) (leb w.prompt (length h.arrived)) e.1 in
      let in_it : (n : ℕ) → T (prompt_in w n) → T (honest_in h n) =
      λ n z. lt→ltb n (length h.arrived) (omega (arith, ltb→lt n w.prompt z, leb→le w.prompt (length h.arrived) f.1)) in
      record { started = λ n z. started_ok h a.0 n (in_it n z); first = e.0; last = leb→le w.last last_slot f.0; honestly = in_it }

  ring_ok : T (all_started h) → T (ring_in w (tolds h)) → RingOf w
  unfolding ring_in mail_genuine packets_genuine
  ring_ok a t =
      let ts = tolds h in
      let b = and_t (mail_genuine h ts) _ t in
      let c = and_t (packets_genuine h ts) (few_others h) b.1 in
      mail_is_enough h.stakes h.genesis (honest_in h) (fed_in h) (record {
        few = few_ok h c.1;
        started = started_ok h a;
        mail = mail_ok h.stakes h.genesis (length h.arrived) (honest_in h) (fed_in h) (told_of ts) (within_table h) (told_is h) b.0;
        packets = λ n k z x j. packets_ok h.stakes h.genesis (length h.arrived) (honest_in h) (fed_in h) (told_of ts) (within_table h) (told_is h) c.0 n k z x;
      })

  module _ (fr : Frame) where
    -- A test of a prompt node's computed end holds of its end.
    at : (P : Ledger → Bool) (n : ℕ) → T (prompt_in w n) → T (P (end_of (ends h) n)) → T (P (end_in h n))
    at P n z t = at_end h P n (fr.honestly n z) t

    own : (n s : ℕ) (v : Ballot) → T (prompt_in w n) → T (cast_by h.stakes h.genesis (prompt_in w) (fed_in h) n s v) → T (has (cell_at (end_in h n) s n) v)
    own n s v z t =
        life_stored n (fresh h.stakes n (h.genesis n)) (fed_in h n) (fresh_ready h.stakes n (h.genesis n) (start_sized h.stakes n (h.genesis n) (fr.started n z))) s v t

    strong_ok : T (strong_in w) → 3 * total h < 5 * weight h.stakes (length h.stakes) (prompt_in w)
    unfolding strong_in
    strong_ok t = ltb→lt (3 * total h) _ t

    first_ok : T (firsts_in w (ends h)) → (n : ℕ) → T (prompt_in w n) → T (is_block (block_in w w.first) w.parent_slot w.parent (first_block (end_in h n) w.first))
    unfolding firsts_in
    first_ok t n z = at (λ l. is_block (block_in w w.first) w.parent_slot w.parent (first_block l w.first)) n z (each _ t n z)

    ready_ok : T (ready_in w (ends h)) → (n : ℕ) → T (prompt_in w n) → T (ready (end_in h n) w.first w.parent_slot w.parent)
    unfolding ready_in
    ready_ok t n z = at (λ l. ready l w.first w.parent_slot w.parent) n z (each _ t n z)

    next_ok : T (next_in w (ends h)) → (n t : ℕ) → T (prompt_in w n) → w.first ≤ t → suc t ≤ w.last → T (is_block (block_in w (suc t)) t (block_in w t) (first_block (end_in h n) (suc t)))
    unfolding next_in
    next_ok x n t z lo hi =
        let p : Ledger → ℕ → Bool = λ l t. not (leb (suc t) w.last) || is_block (block_in w (suc t)) t (block_in w t) (first_block l (suc t)) in
        or_rest (leb (suc t) w.last) _ (at (λ l. p l t) n z (slot_of fr.last (p (end_of (ends h) n)) (each _ x n z) t lo (omega arith))) (le→leb (suc t) w.last hi)

    patient_ok : T (patient_in w) → (n t : ℕ) → T (prompt_in w n) → w.first ≤ t → t ≤ w.last → T (not (hasty_in (fresh h.stakes n (h.genesis n)) (fed_in h n) (window_of t)))
    unfolding patient_in
    patient_ok x n t z lo hi = slot_of fr.last (λ t. not (hasty_in (fresh h.stakes n (h.genesis n)) (fed_in h n) (window_of t))) (each _ x n z) t lo hi

    votes_ok : T (notars_in w (ends h)) → (n m t : ℕ) → T (prompt_in w n) → T (prompt_in w m) → w.first ≤ t → t ≤ w.last
        → T (cast_by h.stakes h.genesis (prompt_in w) (fed_in h) m t (notar (block_in w t))) → T (has (cell_at (end_in h n) t m) (notar (block_in w t)))
    unfolding notars_in
    votes_ok x n m t z k lo hi c =
        let b = block_in w t in
        let p : Ledger → Ledger → ℕ → Bool = λ l r t. not (eqb (cell_at r t m).notar (block_in w t)) || eqb (cell_at l t m).notar (block_in w t) in
        let a = slot_of fr.last (p (end_of (ends h) n) (end_of (ends h) m)) (each _ (each _ x n z) m k) t lo hi in
        let v = notar_is (cell_at (end_in h m) t m) b (own m t (notar b) k c) in
        is_notar (cell_at (end_in h n) t m) b v.0
        (or_rest (eqb (cell_at (end_in h m) t m).notar b) _ (at (λ r. p (end_in h n) r t) m k (at (λ l. p l (end_of (ends h) m) t) n z a)) v.1)

    finals_ok : T (finals_in w (ends h)) → (n m t : ℕ) → T (prompt_in w n) → T (prompt_in w m) → w.first ≤ t → t ≤ w.last
        → T (cast_by h.stakes h.genesis (prompt_in w) (fed_in h) m t final) → T (has (cell_at (end_in h n) t m) final)
    unfolding finals_in
    finals_ok x n m t z k lo hi c =
        let p : Ledger → Ledger → ℕ → Bool = λ l r t. none (cell_at r t m).finalvote || not (none (cell_at l t m).finalvote) in
        let a = slot_of fr.last (p (end_of (ends h) n) (end_of (ends h) m)) (each _ (each _ x n z) m k) t lo hi in
        or_t (none (cell_at (end_in h m) t m).finalvote) _ (at (λ r. p (end_in h n) r t) m k (at (λ l. p l (end_of (ends h) m) t) n z a))
        (λ y. absurd (T_not (none (cell_at (end_in h m) t m).finalvote) (own m t final k c) y)) (λ y. y)

  leads_but_lem : (left : ℕ) → T (leads_but left w (ends h)) → AllBut left w × Frame × T (all_started h)
  unfolding leads_but
  leads_but_lem left t =
      let ls = ends h in
      let a = and_t (all_started h && begins w) _ t in
      let b = and_t (as_meant left the_strength (strong_in w)) _ a.1 in
      let c = and_t (as_meant left the_first (firsts_in w ls)) _ b.1 in
      let d = and_t (as_meant left the_parent (ready_in w ls)) _ c.1 in
      let e = and_t (as_meant left the_next (next_in w ls)) _ d.1 in
      let f = and_t (as_meant left the_patience (patient_in w)) _ e.1 in
      let g = and_t (as_meant left the_votes (notars_in w ls)) (as_meant left the_finals (finals_in w ls)) f.1 in
      let fr = frame a.0 in
      let o : AllBut left w = record {
        begins = fr.first;
        last = fr.last;
        started = fr.started;
        strong = λ ne. strong_ok fr (meant h left the_strength (strong_in w) b.0 ne);
        first = λ ne. first_ok fr (meant h left the_first (firsts_in w ls) c.0 ne);
        ready_parent = λ ne. ready_ok fr (meant h left the_parent (ready_in w ls) d.0 ne);
        next = λ ne. next_ok fr (meant h left the_next (next_in w ls) e.0 ne);
        patient = λ ne. patient_ok fr (meant h left the_patience (patient_in w) f.0 ne);
        votes = λ ne. votes_ok fr (meant h left the_votes (notars_in w ls) g.0 ne);
        finals = λ ne. finals_ok fr (meant h left the_finals (finals_in w ls) g.1 ne);
      } in
      (o, fr, (and_t (all_started h) (begins w) a.0).0)

  pub fails_without_lem : (left : ℕ) → T (fails_without left w) → FailsWithout left w
  unfolding fails_without not_final
  fails_without_lem left t =
      let q : ℕ → ℕ → Bool = λ n t. (leb w.first t && leb t w.last) && not (is_final (end_of (ends h) n) t (block_in w t)) in
      let p : ℕ → Bool = λ n. some_to (suc last_slot) (q n) in
      let r = and_t (ring_in w (tolds h)) _ t in
      let a = and_t (leads_but left w (ends h)) (some_to w.prompt p) r.1 in
      let o = leads_but_lem left a.0 in
      let x = some_find w.prompt p (T_true (some_to w.prompt p) a.1) in
      let n = x.0 in
      let y = some_find (suc last_slot) (q n) x.2 in
      let s = y.0 in
      let c = and_t (leb w.first s && leb s w.last) (not (is_final (end_of (ends h) n) s (block_in w s))) (true_t (q n s) y.2) in
      let d = and_t (leb w.first s) (leb s w.last) c.0 in
      let z : T (prompt_in w n) = lt→ltb n w.prompt x.1 in
      record {
        ring = ring_ok o.2 r.0;
        others = o.0;
        fails = λ f. T_not (is_final (end_in h n) s (block_in w s)) (at_end h (λ l. not (is_final l s (block_in w s))) n (o.1.honestly n z) c.1)
            (f n s z (leb→le w.first s d.0) (leb→le s w.last d.1));
      }

  -- The final votes are no premise of being led.
  led_of : (left : ℕ) → AllBut left w → ¬ (left ≡ the_strength) → ¬ (left ≡ the_first) → ¬ (left ≡ the_parent) → ¬ (left ≡ the_next) → ¬ (left ≡ the_patience) → ¬ (left ≡ the_votes) → LedOf w
  led_of left o a b c d e f =
      record {
        begins = o.begins;
        last = o.last;
        started = o.started;
        strong = o.strong a;
        parent_slot = w.parent_slot;
        parent = w.parent;
        first = o.first b;
        ready_parent = o.ready_parent c;
        next = o.next d;
        patient = o.patient e;
        votes = o.votes f;
      }

  ring_unless_lem : (many : Bool) → T (all_started h) → T (ring_unless many w (tolds h)) → RingUnless many w
  unfolding ring_unless choose few_others
  ring_unless_lem true a t = λ f. T_not (few_others h) t (lt→ltb _ (total h) f)
  ring_unless_lem false a t = ring_ok a t

  pub goes_fast_lem : (many : Bool) → T (goes_fast many w) → GoesFast many w
  unfolding goes_fast heavy_in
  goes_fast_lem many t =
      let r = and_t (ring_unless many w (tolds h)) _ t in
      let a = and_t (heavy_in w) _ r.1 in
      let o = leads_but_lem the_finals (and_t (leads_but the_finals w (ends h)) (all_fast w (ends h) (tolds h)) a.1).0 in
      let l = led_of the_finals o.0 (λ e. omega arith) (λ e. omega arith) (λ e. omega arith) (λ e. omega arith) (λ e. omega arith) (λ e. omega arith) in
      record {
        ring = ring_unless_lem many o.2 r.0;
        led = l;
        fast = fast_final h.stakes h.genesis (fed_in h) (prompt_in w) (block_in w) w.first w.last l (leb→le _ _ a.0);
      }

  pub goes_slow_lem : (many : Bool) → T (goes_slow many w) → GoesSlow many w
  unfolding goes_slow
  goes_slow_lem many t =
      let r = and_t (ring_unless many w (tolds h)) _ t in
      let o = leads_but_lem 0 (and_t (leads_but 0 w (ends h)) (all_slow w (ends h) (tolds h)) r.1).0 in
      let l = led_of 0 o.0 (λ e. omega arith) (λ e. omega arith) (λ e. omega arith) (λ e. omega arith) (λ e. omega arith) (λ e. omega arith) in
      record {
        ring = ring_unless_lem many o.2 r.0;
        led = l;
        slow = λ n t p lo hi. (slow_final h.stakes h.genesis (fed_in h) (prompt_in w) (block_in w) w.first w.last l (o.0.finals (λ e. omega arith)) n t p lo hi).3;
      }

  pub marks_wrong_lem : (t : ℕ) → T (prompt_in w 0) → T (marks_wrong w t) → MarksWrong w t
  unfolding marks_wrong marks_other
  marks_wrong_lem t z x =
      let r = and_t (ring_in w (tolds h)) _ x in
      let a = and_t (leads_but the_finals w (ends h)) (marks_other w t (ends h) (tolds h)) r.1 in
      let o = leads_but_lem the_finals a.0 in
      let b = and_t (is_final (end_of (ends h) 0) t (block_in w t)) _ a.1 in
      let c = and_t (not (eqb (row_at (end_of (ends h) 0) t).final (block_in w t))) _ b.1 in
      record {
        ring = ring_ok o.2 r.0;
        led = led_of the_finals o.0 (λ e. omega arith) (λ e. omega arith) (λ e. omega arith) (λ e. omega arith) (λ e. omega arith) (λ e. omega arith);
        wrong = λ e. T_not (eqb (row_at (end_in h 0) t).final (block_in w t)) (at_end h (λ l. not (eqb (row_at l t).final (block_in w t))) 0 (o.1.honestly 0 z) c.0) (rw e (eqb_refl (block_in w t)));
      }
