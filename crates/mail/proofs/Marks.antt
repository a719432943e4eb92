-- An armed window stays armed, and a slot's timeout is marked as taken only where it was accepted: so an armed slot whose timeout is fed has
-- accepted it by then.
use Rattle.std.specs.Prelude.{⊤, Result, Ok, Err}
use mathlib.Core.Path.{◌≡◌, refl, sym, ap, ◌∙◌, subst}
use mathlib.Core.Bool.{Bool, true, false, not, ◌&&◌, ◌||◌}
use mathlib.Core.List.{List, [], ◌∷◌}
use Prim.Native.Nat.{ℕ, ◌≤◌}
use native.Mathlib.Omega.{arith}
use native.Mathlib.Decide.{ℕ_discrete}
use lib.Dec.{T, eqb, eqb→eq, eqb_refl, T_not}
use lib.ListN.{get_or, set}
use lib.Seq.{get_or-set_same, get_or-set_other}
use Rattle.rulebook.specs.declared.Input.{Input}
use Rattle.rulebook.specs.declared.Input.TheVariants as input
use Rattle.rulebook.specs.declared.Refusal.{Refusal}
use Rattle.rulebook.specs.Certificates.{Certificate}
use Rattle.rulebook.specs.Weights.{last_slot, window_of, slot_ok}
use Rattle.rulebook.specs.Ledger.{Ledger, Row, none, places, table_of, row_at, is_watcher, is_armed, no_initial, own_cell, certificates_at, put_row, put_armed, put_timed_out}
use Rattle.rulebook.specs.Votes.{store_vote}
use Rattle.rulebook.specs.Rules.{State, state_of, cast, cast_skips}
use Rattle.rulebook.specs.Run.{run}
use Rattle.rulebook.specs.Inputs.{Fed, keep_block, timeout_verdict, verdict, time_out, intake, fed_with, refused_with, fed_on, feed}
use Rattle.rulebook.specs.Checker.{judge}
use Rattle.rulebook.specs.Taking.{kept_verdict, keep_certificate, taken_on, taken, Arrival, of_input, of_packet, served}
use Rattle.rulebook.specs.WellFormed.{Shaped}
use Rattle.rule_laws.proofs.AcceptedLaws.{packet_cases}
use Rattle.settling.specs.Facts.{Sound}
use Rattle.settling.specs.Steps.{Came, Lawful, kind_for}
use Rattle.settling.proofs.Places.{window_low}
use Rattle.settling.proofs.Sounding.{sound_certificate, sound_timed_out}
use Rattle.settling.proofs.Spending.{came_self, came_lawful}
use Rattle.settling.proofs.LawfulRules.{run_keeps, voter_casting, skips_keep}
use Rattle.settling.proofs.Life.{intake_paid, taken_fine, served_paid}
use Rattle.settling.proofs.Verdicts.{vote_fine, block_fine, timeout_fine}
use Rattle.watchers.specs.Watching.{is_done}
use Rattle.safety.specs.Ring.{after_all}
use Rattle.safety.proofs.Tests.{T_and, or_t, T-left, T-right, by_test}
use Rattle.safety.proofs.Tests as tests
use Rattle.safety.proofs.Guards.{given_by}
use Rattle.safety.proofs.Steps.{pass}
use Rattle.safety.proofs.Stores.{row_part}
use Rattle.mail.specs.Mail.{times_out, timed_out_in}
use Rattle.mail.proofs.Votes.{slot_fine}
use Rattle.mail.proofs.Quiet.{intake_armed}
use Rattle.mail.proofs.Arrivals.{any_is}

-- The timeout of slot s is marked as taken.
abbrev pub marked : Ledger → ℕ → Bool
marked l s = not (none (row_at l s).timed_out)

-- From l to m windows stay armed, and slot s's mark is as it was.
record Marks (s : ℕ) (l m : Ledger) : Type 0 where
  pub armed : T (is_armed l s) → T (is_armed m s)
  pub mark : (row_at m s).timed_out ≡ (row_at l s).timed_out

-- ---- the rules

-- Another row with the same mark.
row_mark : (l : Ledger) (t : ℕ) (r : Row) → t ≤ last_slot → Shaped (places l) l → r.timed_out ≡ (row_at l t).timed_out → (s : ℕ) → (row_at (put_row l t r) s).timed_out ≡ (row_at l s).timed_out
row_mark l t r h sh e s = row_part (λ (q : Row). q.timed_out) l t r (omega arith) sh e s

arm_stays : (l : Ledger) (t s : ℕ) → 1 ≤ t → t ≤ last_slot → Shaped (places l) l → T (is_armed l s) → T (is_armed (put_armed l t) s)
arm_stays l t s lo hi sh a =
    elim (ℕ_discrete (window_of s) (window_of t)) [
      | yes e ↦ subst (λ (w : ℕ). T (not (none w))) (sym (ap (λ (w : ℕ). get_or (set l.armed (window_of t) 1) w 0) e ∙ get_or-set_same l.armed (window_of t) 1 0 (rw sh.armed (window_low t lo hi)))) tt
      | no ne ↦ subst (λ (w : ℕ). T (not (none w))) (sym (get_or-set_other l.armed (window_of t) (window_of s) 1 0 ne)) a
    ]

-- What was reached by making records, with the marks as they were.
abbrev Along : ℕ → State → State → Type 0
Along s o p = Came o p × Marks s o.ledger p.ledger

marks_lawful : (s : ℕ) (o : State) → Lawful (Along s o)
unfolding cast store_vote
marks_lawful s o =
    let law = came_lawful o in
    record {
      sound = λ p h. h.0.sound;
      vote = λ p t k b lo hi v e m w h. (
        law.vote p t k b lo hi v e m w h.0,
        record { armed = h.1.armed; mark = row_mark p.ledger t _ hi h.0.sound.shaped refl s ∙ h.1.mark },
      );
      arm = λ p t lo hi e h. (
        law.arm p t lo hi e h.0,
        record { armed = λ a. arm_stays p.ledger t s lo hi h.0.sound.shaped (h.1.armed a); mark = h.1.mark },
      );
      tell = λ p t b lo hi e m h. (
        law.tell p t b lo hi e m h.0,
        record { armed = h.1.armed; mark = row_mark p.ledger t _ hi h.0.sound.shaped refl s ∙ h.1.mark },
      );
      clash = λ p t b lo hi e h. (
        law.clash p t b lo hi e h.0,
        record { armed = h.1.armed; mark = row_mark p.ledger t _ hi h.0.sound.shaped refl s ∙ h.1.mark },
      );
    }

marks_start : (s : ℕ) (o : State) → Sound o.ledger → Along s o o
marks_start s o h = (came_self o h, record { armed = λ a. a; mark = refl })

run_marks : (s : ℕ) (o : State) → Sound o.ledger → Marks s o.ledger (run o).ledger
run_marks s o h = (run_keeps (Along s o) (marks_lawful s o) o (marks_start s o h)).1

-- ---- what arrives

timeout_passes : (l : Ledger) (s : ℕ) → T (not (is_watcher l)) → 1 ≤ s → s ≤ last_slot → T (is_armed l s) → T (not (marked l s)) → timeout_verdict l s ≡ Ok tt
unfolding timeout_verdict
timeout_passes l s v lo hi a u =
    pass (is_watcher l) _ _ v
    (pass (not (slot_ok s)) _ _ (tests.yes (slot_ok s) (slot_fine s lo hi))
    (pass (not (is_armed l s)) _ _ (tests.yes (is_armed l s) a)
    (pass (marked l s) _ _ u refl)))

fine_done : (l : Ledger) (i : Input) (v : Result ⊤ Refusal) → v ≡ Ok tt → T (is_done (fed_on v l i).answer)
unfolding fed_on fed_with is_done
fine_done l i v e = rw e tt

module _ (l : Ledger) (h : Sound l) (s : ℕ) where
  -- A timeout of another slot leaves the mark.
  skips_mark : (t : ℕ) → 1 ≤ t → t ≤ last_slot → is_watcher l ≡ false → (row_at (time_out l t).ledger s).timed_out ≡ (row_at (put_timed_out l t) s).timed_out
  unfolding time_out is_watcher
  skips_mark t lo hi v =
      let o = state_of (put_timed_out l t) [] in
      given_by (λ (p : State). (row_at p.ledger s).timed_out ≡ (row_at (put_timed_out l t) s).timed_out) (no_initial (own_cell l t)) o (λ _. cast_skips o t) refl
      (λ _. (skips_keep _ (voter_casting (Along s o) (marks_lawful s o)) t lo hi o (marks_start s o (sound_timed_out l h t lo hi), v)).0.1.mark)

  intake_mark : (i : Input) → verdict l i ≡ Ok tt → ¬ T (times_out (of_input i) s) → (row_at (intake l i).ledger s).timed_out ≡ (row_at l s).timed_out
  unfolding intake store_vote keep_block verdict
  intake_mark (input.Vote v) e n = let f = vote_fine l v e in row_mark l v.slot.0 _ f.high h.shaped refl s
  intake_mark (input.Block t b) e n = let f = block_fine l t.0 b e in row_mark l t.0 _ f.high h.shaped refl s
  intake_mark (input.Timeout t) e n =
      let f = timeout_fine l t.0 e in
      skips_mark t.0 f.low f.high f.votes ∙ other (λ q. n (subst (λ (z : ℕ). T (eqb t.0 z)) q (eqb_refl t.0)))
    where
      other : ¬ (t.0 ≡ s) → (row_at (put_timed_out l t.0) s).timed_out ≡ (row_at l s).timed_out
      other ne = ap (λ (r : Row). r.timed_out) (get_or-set_other l.rows t.0 s _ _ (λ q. ne (sym q)))
  intake_mark input.Look e n = refl

  -- It is armed still, and marked only if it was, or if it accepted the timeout.
  record Kept (i : Arrival) (f : Fed) : Type 0 where
    pub armed : T (is_armed l s) → T (is_armed f.ledger s)
    pub mark : T (marked f.ledger s) → T ((times_out i s && is_done f.answer) || marked l s)

  refused_kept : (i : Arrival) (f : Fed) → f.ledger ≡ l → Kept i f
  refused_kept i f e = record {
    armed = λ a. subst (λ (m : Ledger). T (is_armed m s)) (sym e) a;
    mark = λ t. T-right (times_out i s && is_done f.answer) (marked l s) (subst (λ (m : Ledger). T (marked m s)) e t);
  }

  fed_kept : (v : Result ⊤ Refusal) (i : Input) → verdict l i ≡ v → Kept (of_input i) (fed_on v l i)
  unfolding fed_on fed_with refused_with is_done
  fed_kept (Ok tt) i e =
      let o = intake l i in
      let m = run_marks s o (intake_paid l h i e).sound in
      let a = times_out (of_input i) s in
      record {
        armed = λ t. m.armed (subst (λ (ws : List ℕ). T (not (none (get_or ws (window_of s) 0)))) (sym (intake_armed l i)) t);
        mark = λ t. by_test a
            (λ u. T-left (a && true) (marked l s) (T_and a true u tt))
            (λ u. T-right (a && true) (marked l s) (subst (λ (z : ℕ). T (not (none z))) (m.mark ∙ intake_mark i e (T_not a u)) t));
      }
  fed_kept (Err r) i e = refused_kept (of_input i) (refused_with l r) refl

  taken_kept : (v : Result ⊤ Refusal) (bytes : List ℕ) (c : Certificate) → judge (table_of l) c ≡ Ok tt → kept_verdict (certificates_at l c.slot) (kind_for l c) c.block ≡ v → Kept (of_packet bytes) (taken_on v l c)
  unfolding taken_on fed_with refused_with keep_certificate
  taken_kept (Ok tt) bytes c j e =
      let f = taken_fine l h c j e in
      let m = run_marks s (state_of (keep_certificate l c) []) (sound_certificate l h c f) in
      record {
        armed = λ t. m.armed t;
        mark = λ t. subst (λ (z : ℕ). T (not (none z))) (m.mark ∙ row_mark l c.slot _ f.high h.shaped refl s) t;
      }
  taken_kept (Err r) bytes c j e = refused_kept (of_packet bytes) (refused_with l r) refl

  served_kept : (i : Arrival) → Kept i (served l i)
  unfolding served feed taken refused_with
  served_kept (of_input i) = fed_kept (verdict l i) i refl
  served_kept (of_packet bytes) =
      packet_cases (Kept (of_packet bytes)) l bytes (λ r. refused_kept (of_packet bytes) (refused_with l r) refl)
      (λ c next e j. taken_kept (kept_verdict (certificates_at l c.slot) (kind_for l c) c.block) bytes c j refl)

  -- An armed slot's timeout, when it is fed, is accepted or was taken.
  timeout_done : T (not (is_watcher l)) → 1 ≤ s → s ≤ last_slot → T (is_armed l s) → (i : Arrival) → T (times_out i s) → T ((times_out i s && is_done (served l i).answer) || marked l s)
  unfolding served feed verdict
  timeout_done v lo hi a (of_input (input.Vote w)) t = absurd t
  timeout_done v lo hi a (of_input (input.Block x b)) t = absurd t
  timeout_done v lo hi a (of_input (input.Timeout x)) t =
      by_test (marked l s) (λ u. T-right (times_out (of_input (input.Timeout x)) s && is_done (served l (of_input (input.Timeout x))).answer) (marked l s) u)
      (λ u. T-left (eqb x.0 s && is_done (fed_on (timeout_verdict l x.0) l (input.Timeout x)).answer) (marked l s)
      (T_and (eqb x.0 s) (is_done (fed_on (timeout_verdict l x.0) l (input.Timeout x)).answer) t (done (timeout_verdict l x.0) (subst (λ (z : ℕ). timeout_verdict l z ≡ Ok tt) (sym (eqb→eq x.0 s t)) (fine u)))))
    where
      fine : T (not (marked l s)) → timeout_verdict l s ≡ Ok tt
      fine u = timeout_passes l s v lo hi a u

      done : (z : Result ⊤ Refusal) → z ≡ Ok tt → T (is_done (fed_on z l (input.Timeout x)).answer)
      done z e = fine_done l (input.Timeout x) z e
  timeout_done v lo hi a (of_input input.Look) t = absurd t
  timeout_done v lo hi a (of_packet bytes) t = absurd t

-- ---- a life

pub life_stays_armed : (l : Ledger) (is : List Arrival) → Sound l → (s : ℕ) → T (is_armed l s) → T (is_armed (after_all l is) s)
unfolding after_all
life_stays_armed l [] h s t = t
life_stays_armed l (i ∷ is) h s t = life_stays_armed (served l i).ledger is (served_paid l h i).sound s ((served_kept l h s i).armed t)

-- A mark was there, or the timeout was accepted.
pub life_marked : (l : Ledger) (is : List Arrival) → Sound l → (s : ℕ) → T (marked (after_all l is) s) → T (timed_out_in l is s || marked l s)
unfolding after_all timed_out_in
life_marked l [] h s t = t
life_marked l (i ∷ is) h s t =
    tests.once_more (times_out i s && is_done (served l i).answer) (timed_out_in (served l i).ledger is s) (marked l s) (marked (served l i).ledger s)
    (life_marked (served l i).ledger is (served_paid l h i).sound s t) (served_kept l h s i).mark

same_voter : (l m : Ledger) → m.own ≡ l.own → m.count ≡ l.count → T (not (is_watcher l)) → T (not (is_watcher m))
unfolding is_watcher
same_voter l m e f t = rw (e, f) t

-- Fed to a node whose window is armed it is accepted, or it was taken before.
pub life_clocked : (l : Ledger) (is : List Arrival) → Sound l → (s : ℕ) → T (not (is_watcher l)) → 1 ≤ s → s ≤ last_slot → T (is_armed l s) → T (any_is (λ i. times_out i s) is)
    → T (timed_out_in l is s || marked l s)
unfolding timed_out_in any_is
life_clocked l [] h s v lo hi a t = absurd t
life_clocked l (i ∷ is) h s v lo hi a t =
    let next = (served l i).ledger in
    let here = times_out i s && is_done (served l i).answer in
    let paid = served_paid l h i in
    or_t (times_out i s) (any_is (λ j. times_out j s) is) t
    (λ u. or_t here (marked l s) (timeout_done l h s v lo hi a i u) (λ w. T-left (here || timed_out_in next is s) (marked l s) (T-left here (timed_out_in next is s) w)) (λ w. T-right (here || timed_out_in next is s) (marked l s) w))
    (λ u. tests.once_more here (timed_out_in next is s) (marked l s) (marked next s)
    (life_clocked next is paid.sound s (same_voter l next paid.same.own paid.same.count v) lo hi ((served_kept l h s i).armed a) u) (served_kept l h s i).mark)
