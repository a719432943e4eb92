-- What calls answered 0 is what the rule book's life accepts.
use mathlib.Core.Path.{◌≡◌, refl, sym, ap, ◌∙◌, subst}
use mathlib.Core.Bool.{Bool, true, ◌&&◌, ◌||◌}
use mathlib.Core.List.{List, [], ◌∷◌, ◌++◌, map}
use Prim.Native.Nat.{ℕ, ◌%◌}
use lib.Dec.{eqb, leb}
use lib.ListN.{length, drop}
use borrow.Author.Tests.{leb-true, leb-false}
use Rattle.rulebook.specs.declared.Input.TheVariants as input
use Rattle.rulebook.specs.declared.Refusal.{Refusal}
use Rattle.rulebook.specs.declared.Refusal.TheVariants as refusal
use Rattle.rulebook.specs.declared.Vote.{Vote}
use Rattle.rulebook.specs.PaperNumbers.{step_panel}
use Rattle.rulebook.specs.Ledger.{Ledger, fresh}
use Rattle.rulebook.specs.Inputs.{feed}
use Rattle.rulebook.specs.Taking.{Arrival, of_input, of_packet, served}
use Rattle.rulebook.specs.WellFormed.{well_formed, outbox_words}
use Rattle.rulebook.specs.Writers.{over}
use Rattle.rule_laws.proofs.ToolLaws.{by_test, given_on, given_off}
use Rattle.record.specs.Layout.{ledger_of}
use Rattle.soundness.specs.Sound.{sound_words}
use Rattle.soundness.proofs.Laws.{words_spelled, sound_formed}
use Rattle.node.specs.Stepping.{Leaves, step_leaves}
use Rattle.taking.specs.Taking.{take_leaves}
use Rattle.tray_rules.specs.Trays.{votes_in, whole_votes, serve, Tray, tray_refused, tray_served, tray}
use Rattle.trays.specs.Lent.{as_served, tray_leaves}
use Rattle.trays.specs.Lent as trays
use Rattle.watchers.specs.Watching.{is_done}
use Rattle.safety.specs.Ring.{after_all}
use Rattle.safety.proofs.Lives.{Sized, start_sized, watch_sized}
use Rattle.answers.specs.Face.{Beside, Trayed}
use Rattle.seen.specs.Seen.{Seen, ledger_in, LifeSeen}
use Rattle.calls.specs.Operation.{Operation, one_input, a_tray, a_packet, one_with, fed_by}
use Rattle.calls.specs.Life.{Met, Calls, none, then, not_started, not_watched, begun}
use Rattle.calls.proofs.OneCall.{OneServed, step_leaves_lem, take_leaves_lem, call_served, short_nine}
use Rattle.calls.proofs.Observed.{done_zero}
use Rattle.calls.proofs.Life.{many, life_is_seen, watch_is_seen}
use Rattle.onlookers.specs.Accepted.{some_accepted}
use Rattle.onlookers.specs.Following.{begun_as}
use Rattle.onlookers.specs.Observed.{some_answered, accepted_with, accepted_by, AcceptedIsSeen}
use Rattle.onlookers.proofs.Takes.{or_false, or_assoc}
use Rattle.onlookers.proofs.Following.{same_head, own_number}

-- ---- one thing arrives

module _ (p : Arrival → Bool) (ws lent : List ℕ) (i : Arrival) (number made : ℕ) (words left : List ℕ) (sound : sound_words ws ≡ true) (leaves : Leaves) (one : OneServed ws lent i leaves)
    (a : number ≡ (step_panel leaves.answer).number) (b : Beside made (step_panel leaves.answer).values) (w : words ≡ leaves.words) (o : left ≡ leaves.outbox) where
  one_accepted : (eqb number 0 && p i) ≡ some_accepted p (ledger_of ws) (one_with i lent)
  unfolding one_with some_accepted
  one_accepted =
      by_test (leb outbox_words (length lent))
      (λ t. let d = call_served ws lent i number made words left sound leaves one a b w o (leb-true outbox_words (length lent) t) in
      ap (λ (x : Bool). x && p i) (done_zero (served (ledger_of ws) i).answer number d.answered)
      ∙ sym (or_false (is_done (served (ledger_of ws) i).answer && p i)) ∙ ap (some_accepted p (ledger_of ws)) (sym (given_on _ _ _ t)))
      (λ t. let n = short_nine ws lent i number made words left sound leaves one a b w o (leb-false outbox_words (length lent) t) in
      ap (λ (k : ℕ). eqb k 0 && p i) n ∙ ap (some_accepted p (ledger_of ws)) (sym (given_off _ _ _ t)))

-- ---- a tray

-- The votes of a tray by their answers, whatever stands behind these.
tray_answered : (p : Arrival → Bool) (vs : List Vote) (l : Ledger) (rest : List ℕ) → some_answered p vs ((serve l vs).numbers ++ rest) ≡ some_accepted p l (map (λ v. of_input (input.Vote v)) vs)
unfolding some_answered some_accepted serve served
tray_answered p [] l rest = refl
tray_answered p (v ∷ vs) l rest =
    let f = feed l (input.Vote v) in
    (λ i. (done_zero f.answer (step_panel f.answer).number refl i && p (of_input (input.Vote v))) || tray_answered p vs f.ledger rest i)

module _ (p : Arrival → Bool) (ws lent votes places : List ℕ) (number made : ℕ) (words left answers : List ℕ) (sound : sound_words ws ≡ true)
    (s : Trayed ws lent votes places number made words left answers) where
  abbrev accepted : List Arrival → Type 0
  accepted is = (eqb number 0 && some_answered p (votes_in votes) answers) ≡ some_accepted p (ledger_of ws) is

  tray_leaves_lem : (t : Tray) → tray (ledger_of ws) (length lent) (length places) votes ≡ t → tray_leaves ws lent votes places ≡ as_served t lent places
  unfolding tray_leaves
  tray_leaves_lem t e = given_on _ _ _ (words_spelled ws sound) ∙ ap (λ (x : Tray). as_served x lent places) e

  tray_none : (r : Refusal) → tray (ledger_of ws) (length lent) (length places) votes ≡ tray_refused (ledger_of ws) r → accepted []
  unfolding tray_refused is_done some_accepted
  tray_none r e =
      ap (λ (x : Bool). x && some_answered p (votes_in votes) answers)
      (done_zero _ number (s.numbered ∙ ap (λ (x : trays.Leaves). (step_panel x.answer).number) (tray_leaves_lem (tray_refused (ledger_of ws) r) e)))

  tray_all : tray (ledger_of ws) (length lent) (length places) votes ≡ tray_served (serve (ledger_of ws) (votes_in votes)) → accepted (map (λ v. of_input (input.Vote v)) (votes_in votes))
  unfolding tray_served is_done over
  tray_all e =
      let q = tray_leaves_lem (tray_served (serve (ledger_of ws) (votes_in votes))) e in
      let zero : eqb number 0 ≡ true = done_zero _ number (s.numbered ∙ ap (λ (x : trays.Leaves). (step_panel x.answer).number) q) in
      let ns : List ℕ = (serve (ledger_of ws) (votes_in votes)).numbers in
      (λ i. zero i && some_answered p (votes_in votes) ((s.answered ∙ ap (λ (x : trays.Leaves). x.answers) q) i)) ∙ tray_answered p (votes_in votes) (ledger_of ws) (drop (length ns) places)

  tray_accepted : accepted (fed_by (a_tray votes places answers) lent)
  unfolding fed_by tray
  tray_accepted =
      let formed : well_formed (ledger_of ws) ≡ true = sound_formed ws sound in
      by_test (leb outbox_words (length lent) && leb (whole_votes votes) (length places))
      (λ t. by_test (eqb (length votes % 4) 0)
      (λ u. subst accepted (sym (given_on _ _ _ t ∙ given_on _ _ _ u)) (tray_all (given_on _ _ _ formed ∙ given_on _ _ _ t ∙ given_on _ _ _ u)))
      (λ u. subst accepted (sym (given_on _ _ _ t ∙ given_off _ _ _ u)) (tray_none refusal.BadLength (given_on _ _ _ formed ∙ given_on _ _ _ t ∙ given_off _ _ _ u))))
      (λ t. subst accepted (sym (given_off _ _ _ t)) (tray_none refusal.NoRoom (given_on _ _ _ formed ∙ given_off _ _ _ t)))

-- ---- any call

call_accepted : (p : Arrival → Bool) (o : Operation) (ws lent : List ℕ) (number made : ℕ) (words left : List ℕ) → sound_words ws ≡ true → Met o ws lent number made words left
    → accepted_with p o number ≡ some_accepted p (ledger_of ws) (fed_by o lent)
unfolding fed_by accepted_with
call_accepted p (one_input i) ws lent number made words left e s =
    one_accepted p ws lent (of_input i) number made words left e (step_leaves ws lent i) (step_leaves_lem ws lent e i) s.numbered s.counted s.words s.outbox
call_accepted p (a_tray votes places answers) ws lent number made words left e s = tray_accepted p ws lent votes places number made words left answers e s
call_accepted p (a_packet packet) ws lent number made words left e s =
    one_accepted p ws lent (of_packet packet) number made words left e (take_leaves ws lent packet) (take_leaves_lem ws lent e packet) s.numbered s.counted s.words s.outbox

accepted_both : (p : Arrival → Bool) (l : Ledger) (is js : List Arrival) → some_accepted p l (is ++ js) ≡ (some_accepted p l is || some_accepted p (after_all l is) js)
unfolding some_accepted after_all
accepted_both p l [] js = refl
accepted_both p l (i ∷ is) js =
    let m : Ledger = (served l i).ledger in
    let here : Bool = is_done (served l i).answer && p i in
    ap (λ (x : Bool). here || x) (accepted_both p m is js) ∙ or_assoc here (some_accepted p m is) (some_accepted p (after_all m is) js)

calls_accepted : (p : Arrival → Bool) (l : Ledger) (v w : Seen) → LifeSeen l v → v.came ≡ [] → (k : Calls v w) → accepted_by p k ≡ some_accepted p l w.came
unfolding accepted_by some_accepted
calls_accepted p l v w h e none = sym (ap (some_accepted p l) e)
calls_accepted p l v w h e (then {w = x} k o lent number made words left m) =
    let d = many l v x h k in
    let is = fed_by o lent in
    let last = call_accepted p o x.words lent number made words left d.sound m ∙ ap (λ (z : Ledger). some_accepted p z is) d.ledger in
    (λ j. calls_accepted p l v x h e k j || last j) ∙ sym (accepted_both p l x.came is)
calls_accepted p l v w h e (not_started {w = x} k stakes own genesis number words q n) = calls_accepted p l v x h e k
calls_accepted p l v w h e (not_watched {w = x} k stakes genesis number words q n) = calls_accepted p l v x h e k

-- ---- lives

-- A life's ledger began with the number that stands in its words.
as_begun : (p : Arrival → Bool) (stakes : List ℕ) (me genesis : ℕ) → Sized stakes me → (v : Seen) → LifeSeen (fresh stakes me genesis) v
    → some_accepted p (fresh stakes me genesis) v.came ≡ some_accepted p (begun_as stakes genesis v) v.came
as_begun p stakes me genesis size v lived =
    ap (λ (n : ℕ). some_accepted p (fresh stakes n genesis) v.came) (sym (own_number stakes me genesis (ledger_in v) (same_head stakes me genesis size v lived)))

pub accepted_is_seen : AcceptedIsSeen
accepted_is_seen p stakes genesis v =
    record {
      node = λ own h.
          let first = life_is_seen stakes own genesis (begun h.words) (record { found = h.found; words = h.words; start = h.start; calls = none }) in
          let d = life_is_seen stakes own genesis v h in
          calls_accepted p (fresh stakes own genesis) (begun h.words) v first.lived refl h.calls ∙ as_begun p stakes own genesis (start_sized stakes own genesis d.started) v d.lived;
      watcher = λ h.
          let first = watch_is_seen stakes genesis (begun h.words) (record { found = h.found; words = h.words; start = h.start; calls = none }) in
          let d = watch_is_seen stakes genesis v h in
          calls_accepted p (fresh stakes (length stakes) genesis) (begun h.words) v first.lived refl h.calls
          ∙ as_begun p stakes (length stakes) genesis (watch_sized stakes genesis d.started) v d.lived;
    }
