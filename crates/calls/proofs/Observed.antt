-- What a host sees of its calls is what the rule book says of what arrived.
use Rattle.std.specs.Prelude.{Result, Ok, Err}
use mathlib.Core.Path.{◌≡◌, refl, sym, ap, ◌∙◌, subst}
use mathlib.Core.Bool.{Bool, true, false, ◌&&◌}
use mathlib.Core.List.{List, [], ◌∷◌, ◌++◌, append_assoc, append-nil}
use Prim.Native.Nat.{ℕ, ◌≤◌, ◌<◌}
use native.Mathlib.Omega.{arith}
use lib.Dec.{T, eqb, leb, eqb→eq}
use lib.ListN.{length}
use borrow.Author.Tests.{leb-true, leb-false, eqb-true}
use Rattle.rulebook.specs.declared.Input.{Input}
use Rattle.rulebook.specs.declared.Refusal.{Refusal}
use Rattle.rulebook.specs.PaperNumbers.{step_panel}
use Rattle.rulebook.specs.Tools.{whenever}
use Rattle.rulebook.specs.Ledger.{Ledger, fresh}
use Rattle.rulebook.specs.Taking.{Arrival, of_input, of_packet, served}
use Rattle.rulebook.specs.WellFormed.{outbox_words}
use Rattle.rule_laws.proofs.ToolLaws.{given_on, given_off, by_test}
use Rattle.settling.specs.Facts.{Sound}
use Rattle.settling.specs.Steps.{after}
use Rattle.settling.proofs.Life.{life_paid}
use Rattle.settling.proofs.Start.{fresh_sound}
use Rattle.record.specs.Layout.{ledger_of}
use Rattle.soundness.specs.Sound.{sound_words}
use Rattle.node.specs.Stepping.{Leaves, step_leaves}
use Rattle.taking.specs.Taking.{take_leaves}
use Rattle.watchers.specs.Watching.{as_votes, passed_on, is_done, shown_of, shown}
use Rattle.safety.specs.Ring.{after_all}
use Rattle.safety.proofs.Tests.{and_t, T_and, or_t, T-left, T-right}
use Rattle.progress.specs.Progress.{accepted_in}
use Rattle.mail.specs.Mail.{times_out, timed_out_in}
use Rattle.mail.specs.Policy.{by_policy}
use Rattle.mail.proofs.Arrivals.{policy_both, accepted_both, timed_left, timed_right}
use Rattle.answers.specs.Face.{Beside, Stepped}
use Rattle.seen.specs.Seen.{Seen, ledger_in, LifeSeen}
use Rattle.seen.proofs.Numbers.{refusal_above}
use Rattle.seen.proofs.Watchers.{after_all_lem}
use Rattle.calls.specs.Operation.{Operation, one_input, a_tray, a_packet, one_with, fed_by, first_records}
use Rattle.calls.specs.Life.{Met, Calls, none, then, not_started, not_watched}
use Rattle.calls.specs.Observed.{is_step, woken_by, WokenSeen, is_timeout, timed_out_by, TimedOutSeen, calls_by_policy, PolicySeen, shown_one, shown_with, shown_by, ShownSeen}
use Rattle.calls.proofs.OneCall.{OneServed, step_leaves_lem, take_leaves_lem, call_served, short_nine, step_served}
use Rattle.calls.proofs.Life.{many, born_seen, life_is_seen}

-- 0 is the number of "done".
pub done_zero : (a : Result ℕ Refusal) (number : ℕ) → number ≡ (step_panel a).number → eqb number 0 ≡ is_done a
unfolding step_panel is_done
done_zero (Ok n) number e = rw e
done_zero (Err r) number e = by_test (eqb number 0) (λ t. refusal_above r (sym e ∙ eqb-true number 0 t)) (λ t. t)

-- ---- one call that is answered 0

-- A step that is answered 0 had room in its outbox, and the rules accept what arrived with it.
module _ (ws lent : List ℕ) (i : Input) (number made : ℕ) (words left : List ℕ) (sound : sound_words ws ≡ true) (s : Stepped ws lent i number made words left) where
  pub record Accepted : Type 0 where
    pub arrived : one_with (of_input i) lent ≡ of_input i ∷ []
    pub done : T (is_done (served (ledger_of ws) (of_input i)).answer)

  pub accepted : T (eqb number 0) → Accepted
  unfolding one_with
  accepted z =
      by_test (leb outbox_words (length lent))
      (λ t. record {
        arrived = given_on _ _ _ t;
        done = subst T (done_zero (served (ledger_of ws) (of_input i)).answer number (step_served ws lent i number made words left sound s (leb-true outbox_words (length lent) t)).answered) z;
      })
      (λ t. let n = short_nine ws lent (of_input i) number made words left sound (step_leaves ws lent i) (step_leaves_lem ws lent sound i) s.numbered s.counted s.words s.outbox
      (leb-false outbox_words (length lent) t) in
      let e = eqb→eq number 0 z in absurd (omega (arith, n, e)))

accepted_left : (l : Ledger) (is js : List Arrival) → T (accepted_in l is) → T (accepted_in l (is ++ js))
unfolding accepted_in
accepted_left l [] js t = absurd t
accepted_left l (i ∷ is) js t =
    let here = is_done (served l i).answer in
    let next = (served l i).ledger in
    or_t here (accepted_in next is) t (λ u. T-left here (accepted_in next (is ++ js)) u) (λ u. T-right here (accepted_in next (is ++ js)) (accepted_left next is js u))

module _ (ws lent : List ℕ) (number made : ℕ) (words left : List ℕ) (sound : sound_words ws ≡ true) where
  woken_call : (o : Operation) → Met o ws lent number made words left → T (is_step o) → T (eqb number 0) → T (accepted_in (ledger_of ws) (fed_by o lent))
  unfolding fed_by accepted_in
  woken_call (one_input i) m t z =
      let a = accepted ws lent i number made words left sound m z in
      subst (λ (is : List Arrival). T (accepted_in (ledger_of ws) is)) (sym a.arrived) (T-left (is_done (served (ledger_of ws) (of_input i)).answer) _ a.done)
  woken_call (a_tray votes places answers) m t z = absurd t
  woken_call (a_packet packet) m t z = absurd t

  timed_call : (o : Operation) → Met o ws lent number made words left → (s : ℕ) → T (is_timeout o s) → T (eqb number 0) → T (timed_out_in (ledger_of ws) (fed_by o lent) s)
  unfolding fed_by timed_out_in
  timed_call (one_input i) m s t z =
      let a = accepted ws lent i number made words left sound m z in
      let done = is_done (served (ledger_of ws) (of_input i)).answer in
      subst (λ (is : List Arrival). T (timed_out_in (ledger_of ws) is s)) (sym a.arrived)
      (T-left (times_out (of_input i) s && done) _ (T_and (times_out (of_input i) s) done t a.done))
  timed_call (a_tray votes places answers) m s t z = absurd t
  timed_call (a_packet packet) m s t z = absurd t

-- ---- many calls

woken_many : (l : Ledger) (v w : Seen) → LifeSeen l v → (k : Calls v w) → T (woken_by k) → T (accepted_in l w.came)
unfolding woken_by
woken_many l v w h none t = absurd t
woken_many l v w h (then {w = x} k o lent number made words left m) t =
    let d = many l v x h k in
    let is = fed_by o lent in
    or_t (woken_by k) (is_step o && eqb number 0) t
    (λ u. accepted_left l x.came is (woken_many l v x h k u))
    (λ u. let z = and_t (is_step o) (eqb number 0) u in
    accepted_both l x.came is (subst (λ (m : Ledger). T (accepted_in m is)) d.ledger
    (woken_call x.words lent number made words left d.sound o m z.0 z.1)))
woken_many l v w h (not_started {w = x} k stakes own genesis number words s n) t = woken_many l v x h k t
woken_many l v w h (not_watched {w = x} k stakes genesis number words s n) t = woken_many l v x h k t

timed_many : (l : Ledger) (v w : Seen) → LifeSeen l v → (k : Calls v w) (s : ℕ) → T (timed_out_by k s) → T (timed_out_in l w.came s)
unfolding timed_out_by
timed_many l v w h none s t = absurd t
timed_many l v w h (then {w = x} k o lent number made words left m) s t =
    let d = many l v x h k in
    let is = fed_by o lent in
    or_t (timed_out_by k s) (is_timeout o s && eqb number 0) t
    (λ u. timed_left l x.came is s (timed_many l v x h k s u))
    (λ u. let z = and_t (is_timeout o s) (eqb number 0) u in
    timed_right l x.came is s (subst (λ (m : Ledger). T (timed_out_in m is s)) d.ledger
    (timed_call x.words lent number made words left d.sound o m s z.0 z.1)))
timed_many l v w h (not_started {w = x} k stakes own genesis number words q n) s t = timed_many l v x h k s t
timed_many l v w h (not_watched {w = x} k stakes genesis number words q n) s t = timed_many l v x h k s t

policy_many : (l : Ledger) (v w : Seen) → LifeSeen l v → T (by_policy l v.came) → (k : Calls v w) → T (calls_by_policy k) → T (by_policy l w.came)
unfolding calls_by_policy
policy_many l v w h t none u = t
policy_many l v w h t (then {w = x} k o lent number made words left m) u =
    let z = and_t (calls_by_policy k) (by_policy (ledger_in x) (fed_by o lent)) u in
    policy_both l x.came (fed_by o lent) (policy_many l v x h t k z.0) (subst (λ (m : Ledger). T (by_policy m (fed_by o lent))) (many l v x h k).ledger z.1)
policy_many l v w h t (not_started {w = x} k stakes own genesis number words q n) u = policy_many l v x h t k u
policy_many l v w h t (not_watched {w = x} k stakes genesis number words q n) u = policy_many l v x h t k u

pub woken_seen : WokenSeen
woken_seen stakes own genesis v h t = woken_many (fresh stakes own genesis) _ v (born_seen stakes own genesis h.found h.words h.start) h.calls t

pub timed_out_seen : TimedOutSeen
timed_out_seen stakes own genesis v h s t = timed_many (fresh stakes own genesis) _ v (born_seen stakes own genesis h.found h.words h.start) h.calls s t

pub policy_seen : PolicySeen
unfolding by_policy
policy_seen stakes own genesis v h t = policy_many (fresh stakes own genesis) _ v (born_seen stakes own genesis h.found h.words h.start) tt h.calls t

-- ---- what is shown

-- Of a call with which one thing arrives.
module _ (ws lent : List ℕ) (i : Arrival) (number made : ℕ) (words left : List ℕ) (sound : sound_words ws ≡ true) (leaves : Leaves) (one : OneServed ws lent i leaves)
    (a : number ≡ (step_panel leaves.answer).number) (b : Beside made (step_panel leaves.answer).values) (w : words ≡ leaves.words) (o : left ≡ leaves.outbox) where
  one_shown : shown_one (ledger_of ws).own i number made left ≡ shown (ledger_of ws) (one_with i lent)
  unfolding one_with shown_one shown shown_of
  one_shown =
      by_test (leb outbox_words (length lent))
      (λ t. let d = call_served ws lent i number made words left sound leaves one a b w o (leb-true outbox_words (length lent) t) in
      let e = done_zero (served (ledger_of ws) i).answer number d.answered in
      (λ j. whenever (e j) (λ _. passed_on i ++ as_votes (ledger_of ws).own (d.told j)) [])
      ∙ sym (append-nil _) ∙ ap (shown (ledger_of ws)) (sym (given_on _ _ _ t)))
      (λ t. let n = short_nine ws lent i number made words left sound leaves one a b w o (leb-false outbox_words (length lent) t) in
      ap (λ (k : ℕ). whenever (eqb k 0) (λ _. passed_on i ++ as_votes (ledger_of ws).own (first_records made left)) []) n
      ∙ given_off false [] _ refl ∙ ap (shown (ledger_of ws)) (sym (given_off _ _ _ t)))

-- Of any call.
call_shown : (o : Operation) (v : Seen) (lent : List ℕ) (number made : ℕ) (words left : List ℕ) → sound_words v.words ≡ true → Met o v.words lent number made words left
    → shown_with (ledger_in v).own v o lent number made left ≡ shown (ledger_in v) (fed_by o lent)
unfolding fed_by shown_with
call_shown (one_input i) v lent number made words left e s =
    one_shown v.words lent (of_input i) number made words left e (step_leaves v.words lent i) (step_leaves_lem v.words lent e i) s.numbered s.counted s.words s.outbox
call_shown (a_tray votes places answers) v lent number made words left e s = refl
call_shown (a_packet packet) v lent number made words left e s =
    one_shown v.words lent (of_packet packet) number made words left e (take_leaves v.words lent packet) (take_leaves_lem v.words lent e packet) s.numbered s.counted s.words s.outbox

shown_both : (l : Ledger) (is js : List Arrival) → shown l (is ++ js) ≡ shown l is ++ shown (after_all l is) js
unfolding shown after_all
shown_both l [] js = refl
shown_both l (i ∷ is) js =
    ap (λ (x : List Arrival). shown_of l.own i (served l i) ++ x) (shown_both (served l i).ledger is js)
    ∙ sym (append_assoc (shown_of l.own i (served l i)) (shown (served l i).ledger is) (shown (after_all (served l i).ledger is) js))

own_stays : (l : Ledger) (is : List Arrival) → Sound l → (after_all l is).own ≡ l.own
own_stays l is h = subst (λ (m : Ledger). m.own ≡ l.own) (after_all_lem l is) (life_paid l is h).same.own

shown_many : (l : Ledger) (v w : Seen) → Sound l → LifeSeen l v → v.came ≡ [] → (k : Calls v w) → shown_by l.own k ≡ shown l w.came
unfolding shown_by shown
shown_many l v w fine h e none = sym (ap (shown l) e)
shown_many l v w fine h e (then {w = x} k o lent number made words left m) =
    let d = many l v x h k in
    let is = fed_by o lent in
    let own : (ledger_in x).own ≡ l.own = ap (λ (m : Ledger). m.own) d.ledger ∙ own_stays l x.came fine in
    let last : shown_with l.own x o lent number made left ≡ shown (ledger_in x) is =
    subst (λ (n : ℕ). shown_with n x o lent number made left ≡ shown (ledger_in x) is) own (call_shown o x lent number made words left d.sound m) in
    (λ j. shown_many l v x fine h e k j ++ (last ∙ ap (λ (m : Ledger). shown m is) d.ledger) j) ∙ sym (shown_both l x.came is)
shown_many l v w fine h e (not_started {w = x} k stakes own genesis number words q n) = shown_many l v x fine h e k
shown_many l v w fine h e (not_watched {w = x} k stakes genesis number words q n) = shown_many l v x fine h e k

pub shown_seen : ShownSeen
unfolding fresh
shown_seen stakes own genesis v h =
    shown_many (fresh stakes own genesis) _ v (fresh_sound stakes own genesis (life_is_seen stakes own genesis v h).started) (born_seen stakes own genesis h.found h.words h.start) refl h.calls
