-- What one call does to sound words: they are sound again, and they and the told records are those of what arrived with it.
use Rattle.std.specs.Prelude.{⊤, Result, Ok, Err}
use mathlib.Core.Path.{◌≡◌, refl, sym, ap, ◌∙◌, subst}
use mathlib.Core.Bool.{Bool, true, false, not, ◌&&◌}
use mathlib.Core.List.{List, [], ◌∷◌, ◌++◌, map, append-nil}
use Prim.Native.Nat.{ℕ, ◌*◌, ◌%◌, ◌≤◌, ◌<◌}
use native.Mathlib.Omega.{arith}
use lib.ListN.{length, drop, length-reverse}
use lib.Dec.{eqb, leb}
use borrow.Author.Tests.{leb-true, leb-false}
use Rattle.rulebook.specs.declared.Input.{Input}
use Rattle.rulebook.specs.declared.Input.TheVariants as input
use Rattle.rulebook.specs.declared.Refusal.{Refusal}
use Rattle.rulebook.specs.declared.Refusal.TheVariants as refusal
use Rattle.rulebook.specs.declared.Vote.{Vote}
use Rattle.rulebook.specs.Certificates.{Certificate}
use Rattle.rulebook.specs.PaperNumbers.{refusal_number, kind_in, step_panel}
use Rattle.rulebook.specs.Ledger.{Ledger, certificates_at}
use Rattle.rulebook.specs.Rules.{Record, State}
use Rattle.rulebook.specs.Inputs.{Fed, verdict, fed_with, refused_with, fed_on, feed}
use Rattle.rulebook.specs.Taking.{kept_verdict, taken_on, taken, Arrival, of_input, of_packet, served}
use Rattle.rulebook.specs.WellFormed.{well_formed, outbox_words, step, take_certificate}
use Rattle.rule_laws.proofs.ToolLaws.{given_on, given_off, by_test}
use Rattle.rule_laws.proofs.AcceptedLaws.{packet_cases}
use Rattle.settling.specs.Facts.{Sound}
use Rattle.settling.specs.Steps.{life}
use Rattle.settling.proofs.FeedLaws.{step_short, step_fed, take_short, take_on}
use Rattle.settling.proofs.Soundness.{served_sound}
use Rattle.record.specs.Layout.{ledger_of}
use Rattle.record.specs.Spelling.{words_of}
use Rattle.soundness.specs.Sound.{sound_words}
use Rattle.soundness.proofs.Laws.{words_spelled, sound_formed, sound_ledger}
use Rattle.soundness.proofs.InStep.{spelled_sound, spelled_back}
use Rattle.node.specs.Stepping.{spelled, as_fed, Leaves, step_leaves}
use Rattle.taking.specs.Taking.{take_leaves}
use Rattle.tray_rules.specs.Trays.{votes_in, whole_votes, serve, Tray, tray_refused, tray_served, tray}
use Rattle.trays.specs.Lent.{as_served, tray_leaves}
use Rattle.trays.specs.Lent as trays
use Rattle.trays.proofs.Theorems.{serve_life, serve_sound}
use Rattle.safety.specs.Ring.{after_all}
use Rattle.answers.specs.Face.{Beside, Stepped, Trayed}
use Rattle.calls.specs.Operation.{Operation, one_input, a_tray, a_packet, one_with, fed_by, first_records}
use Rattle.calls.specs.Life.{Met}

-- ---- records read back

-- Records that were spelled are read back.
pub read_spelled : (rs : List Record) (rest : List ℕ) → first_records (length rs) (spelled rs ++ rest) ≡ rs
unfolding first_records spelled
read_spelled [] rest = refl
read_spelled (r ∷ rs) rest = ap (λ (xs : List Record). r ∷ xs) (read_spelled rs rest)

-- As many records as an answer counts are read back, where it counts those that are told.
read_counted : (rs : List Record) (made : ℕ) (rest : List ℕ) → Beside made (length rs ∷ []) → first_records made (spelled rs ++ rest) ≡ rs
read_counted rs made rest b = let q : made ≡ length rs = cc in ap (λ (n : ℕ). first_records n (spelled rs ++ rest)) q ∙ read_spelled rs rest

-- What is fed counts the records that it tells.
abbrev TellsAll : Fed → Type 0
TellsAll f = (step_panel f.answer).values ≡ length f.records ∷ []

tells_done : (o : State) → TellsAll (fed_with o)
unfolding fed_with step_panel
tells_done o = ap (λ (n : ℕ). n ∷ []) (sym (length-reverse o.records))

tells_none : (l : Ledger) (r : Refusal) → TellsAll (refused_with l r)
unfolding refused_with step_panel
tells_none l r = refl

fed_tells : (l : Ledger) (i : Input) (v : Result ⊤ Refusal) → TellsAll (fed_on v l i)
unfolding fed_on
fed_tells l i (Ok tt) = tells_done _
fed_tells l i (Err r) = tells_none l r

taken_tells : (l : Ledger) (c : Certificate) (v : Result ⊤ Refusal) → TellsAll (taken_on v l c)
unfolding taken_on
taken_tells l c (Ok tt) = tells_done _
taken_tells l c (Err r) = tells_none l r

served_tells : (l : Ledger) (i : Arrival) → TellsAll (served l i)
unfolding served feed taken
served_tells l (of_input i) = fed_tells l i (verdict l i)
served_tells l (of_packet bytes) =
    packet_cases TellsAll l bytes (tells_none l)
    (λ c next e j. taken_tells l c (kept_verdict (certificates_at l c.slot) (kind_in l.count c.kind) c.block))

-- ---- one thing arrives

-- What a call leaves with which one thing arrives: with room in the outbox that is served, without room it is refused with 9.
pub record OneServed (ws lent : List ℕ) (i : Arrival) (leaves : Leaves) : Type 0 where
  pub fed : outbox_words ≤ length lent → leaves ≡ as_fed (served (ledger_of ws) i) lent
  pub short : length lent < outbox_words → leaves ≡ as_fed (refused_with (ledger_of ws) refusal.NoRoom) lent

module _ (ws lent : List ℕ) (sound : sound_words ws ≡ true) where
  pub step_leaves_lem : (i : Input) → OneServed ws lent (of_input i) (step_leaves ws lent i)
  unfolding step_leaves served
  step_leaves_lem i =
      let on : step_leaves ws lent i ≡ as_fed (step (ledger_of ws) (length lent) i) lent = given_on _ _ _ (words_spelled ws sound) in
      record {
        fed = λ h. on ∙ ap (λ (f : Fed). as_fed f lent) (step_fed (ledger_of ws) i (length lent) (sound_formed ws sound) h);
        short = λ h. on ∙ ap (λ (f : Fed). as_fed f lent) (step_short (ledger_of ws) i (length lent) (sound_formed ws sound) h);
      }

  pub take_leaves_lem : (packet : List ℕ) → OneServed ws lent (of_packet packet) (take_leaves ws lent packet)
  unfolding take_leaves served
  take_leaves_lem packet =
      let on : take_leaves ws lent packet ≡ as_fed (take_certificate (ledger_of ws) (length lent) packet) lent = given_on _ _ _ (words_spelled ws sound) in
      record {
        fed = λ h. on ∙ ap (λ (f : Fed). as_fed f lent) (take_on (ledger_of ws) packet (length lent) (sound_formed ws sound) h);
        short = λ h. on ∙ ap (λ (f : Fed). as_fed f lent) (take_short (ledger_of ws) packet (length lent) (sound_formed ws sound) h);
      }

-- With room in the outbox a call on sound words answers, tells and leaves what serving its one arrival gives.
pub record CallServed (ws : List ℕ) (i : Arrival) (number made : ℕ) (ws' left : List ℕ) : Type 0 where
  pub answered : number ≡ (step_panel (served (ledger_of ws) i).answer).number
  pub told : first_records made left ≡ (served (ledger_of ws) i).records
  pub words : ws' ≡ words_of (served (ledger_of ws) i).ledger

-- What a call has done to sound words.
pub record Did (ws : List ℕ) (is : List Arrival) (made : ℕ) (words left : List ℕ) : Type 0 where
  pub sound : sound_words words ≡ true
  pub ledger : ledger_of words ≡ after_all (ledger_of ws) is
  pub told : first_records made left ≡ life (ledger_of ws) is

-- A call with which one thing arrives, by what it leaves.
module _ (ws lent : List ℕ) (i : Arrival) (number made : ℕ) (words left : List ℕ) (sound : sound_words ws ≡ true) (leaves : Leaves) (one : OneServed ws lent i leaves)
    (a : number ≡ (step_panel leaves.answer).number) (b : Beside made (step_panel leaves.answer).values) (w : words ≡ leaves.words) (o : left ≡ leaves.outbox) where
  pub call_served : outbox_words ≤ length lent → CallServed ws i number made words left
  call_served h =
      let f : Fed = served (ledger_of ws) i in
      let q = one.fed h in
      let p : left ≡ spelled f.records ++ drop (3 * length f.records) lent = o ∙ ap (λ (x : Leaves). x.outbox) q in
      record {
        answered = a ∙ ap (λ (x : Leaves). (step_panel x.answer).number) q;
        told = ap (first_records made) p ∙ read_counted f.records made _ (b ∙ ap (λ (x : Leaves). (step_panel x.answer).values) q ∙ served_tells (ledger_of ws) i);
        words = w ∙ ap (λ (x : Leaves). x.words) q;
      }

  -- Without room the answer is 9.
  pub short_nine : length lent < outbox_words → number ≡ 9
  unfolding refused_with step_panel refusal_number
  short_nine h = a ∙ ap (λ (x : Leaves). (step_panel x.answer).number) (one.short h)

  -- With room in the outbox it is served.
  served_all : outbox_words ≤ length lent → Did ws (i ∷ []) made words left
  unfolding after_all life
  served_all h =
      let f : Fed = served (ledger_of ws) i in
      let d = call_served h in
      let sure : Sound f.ledger = served_sound (ledger_of ws) (sound_ledger ws sound) i in
      record {
        sound = ap sound_words d.words ∙ spelled_sound f.ledger sure;
        ledger = ap ledger_of d.words ∙ spelled_back f.ledger sure;
        told = d.told ∙ sym (append-nil f.records);
      }

  -- Without room nothing is.
  served_none : length lent < outbox_words → Did ws [] made words left
  unfolding refused_with step_panel first_records after_all life
  served_none h =
      let q = one.short h in
      let u : words ≡ words_of (ledger_of ws) = w ∙ ap (λ (x : Leaves). x.words) q in
      let z : made ∷ [] ≡ 0 ∷ [] = b ∙ ap (λ (x : Leaves). (step_panel x.answer).values) q in
      let n : made ≡ 0 = cc in
      record {
        sound = ap sound_words u ∙ spelled_sound (ledger_of ws) (sound_ledger ws sound);
        ledger = ap ledger_of u ∙ spelled_back (ledger_of ws) (sound_ledger ws sound);
        told = ap (λ (k : ℕ). first_records k left) n;
      }

  one_did : Did ws (one_with i lent) made words left
  unfolding one_with
  one_did =
      by_test (leb outbox_words (length lent))
      (λ t. subst (λ (is : List Arrival). Did ws is made words left) (sym (given_on _ _ _ t)) (served_all (leb-true outbox_words (length lent) t)))
      (λ t. subst (λ (is : List Arrival). Did ws is made words left) (sym (given_off _ _ _ t)) (served_none (leb-false outbox_words (length lent) t)))

-- A step's input with room in the outbox.
pub step_served : (ws lent : List ℕ) (i : Input) (number made : ℕ) (words left : List ℕ) → sound_words ws ≡ true → Stepped ws lent i number made words left
    → outbox_words ≤ length lent → CallServed ws (of_input i) number made words left
step_served ws lent i number made words left sound s =
    call_served ws lent (of_input i) number made words left sound (step_leaves ws lent i) (step_leaves_lem ws lent sound i) s.numbered s.counted s.words s.outbox

-- ---- a tray's votes, one after the other

serve_after : (l : Ledger) (vs : List Vote) → (serve l vs).ledger ≡ after_all l (map (λ v. of_input (input.Vote v)) vs)
unfolding serve after_all served
serve_after l [] = refl
serve_after l (v ∷ vs) = serve_after (feed l (input.Vote v)).ledger vs

module _ (ws lent votes places : List ℕ) (number made : ℕ) (words left answers : List ℕ) (sound : sound_words ws ≡ true)
    (s : Trayed ws lent votes places number made words left answers) where
  tray_did_as : (t : Tray) (is : List Arrival) → tray (ledger_of ws) (length lent) (length places) votes ≡ t → Sound t.served.ledger
      → t.served.ledger ≡ after_all (ledger_of ws) is → (step_panel t.answer).values ≡ length t.served.records ∷ []
      → t.served.records ≡ life (ledger_of ws) is → Did ws is made words left
  unfolding tray_leaves
  tray_did_as t is e h d c m =
      let q : tray_leaves ws lent votes places ≡ as_served t lent places =
      given_on _ _ _ (words_spelled ws sound) ∙ ap (λ (x : Tray). as_served x lent places) e in
      let w : words ≡ words_of t.served.ledger = s.words ∙ ap (λ (x : trays.Leaves). x.words) q in
      let o : left ≡ spelled t.served.records ++ drop (3 * length t.served.records) lent = s.outbox ∙ ap (λ (x : trays.Leaves). x.outbox) q in
      record {
        sound = ap sound_words w ∙ spelled_sound t.served.ledger h;
        ledger = ap ledger_of w ∙ spelled_back t.served.ledger h ∙ d;
        told = ap (first_records made) o ∙ read_counted t.served.records made _ (s.counted ∙ ap (λ (x : trays.Leaves). (step_panel x.answer).values) q ∙ c) ∙ m;
      }

  -- A refused tray feeds nothing.
  tray_none : (x : Refusal) → tray (ledger_of ws) (length lent) (length places) votes ≡ tray_refused (ledger_of ws) x → Did ws [] made words left
  unfolding tray_refused serve step_panel after_all life
  tray_none x e = tray_did_as (tray_refused (ledger_of ws) x) [] e (sound_ledger ws sound) refl refl refl

  -- A tray that is served feeds its votes.
  tray_all : tray (ledger_of ws) (length lent) (length places) votes ≡ tray_served (serve (ledger_of ws) (votes_in votes)) → Did ws (map (λ v. of_input (input.Vote v)) (votes_in votes)) made words left
  unfolding tray_served step_panel
  tray_all e =
      let l = ledger_of ws in
      let vs = votes_in votes in
      tray_did_as (tray_served (serve l vs)) (map (λ v. of_input (input.Vote v)) vs) e (serve_sound l vs (sound_ledger ws sound)) (serve_after l vs) refl (serve_life l vs).1

  tray_did : Did ws (fed_by (a_tray votes places answers) lent) made words left
  unfolding fed_by tray
  tray_did =
      let formed : well_formed (ledger_of ws) ≡ true = sound_formed ws sound in
      by_test (leb outbox_words (length lent) && leb (whole_votes votes) (length places))
      (λ t. by_test (eqb (length votes % 4) 0)
      (λ u. subst (λ (is : List Arrival). Did ws is made words left) (sym (given_on _ _ _ t ∙ given_on _ _ _ u))
      (tray_all (given_on _ _ _ formed ∙ given_on _ _ _ t ∙ given_on _ _ _ u)))
      (λ u. subst (λ (is : List Arrival). Did ws is made words left) (sym (given_on _ _ _ t ∙ given_off _ _ _ u))
      (tray_none refusal.BadLength (given_on _ _ _ formed ∙ given_on _ _ _ t ∙ given_off _ _ _ u))))
      (λ t. subst (λ (is : List Arrival). Did ws is made words left) (sym (given_off _ _ _ t))
      (tray_none refusal.NoRoom (given_on _ _ _ formed ∙ given_off _ _ _ t)))

-- ---- any call

pub call_did : (o : Operation) (ws lent : List ℕ) (number made : ℕ) (words left : List ℕ) → sound_words ws ≡ true → Met o ws lent number made words left
    → Did ws (fed_by o lent) made words left
unfolding fed_by
call_did (one_input i) ws lent number made words left e s =
    one_did ws lent (of_input i) number made words left e (step_leaves ws lent i) (step_leaves_lem ws lent e i) s.numbered s.counted s.words s.outbox
call_did (a_tray votes places answers) ws lent number made words left e s = tray_did ws lent votes places number made words left answers e s
call_did (a_packet packet) ws lent number made words left e s =
    one_did ws lent (of_packet packet) number made words left e (take_leaves ws lent packet) (take_leaves_lem ws lent e packet) s.numbered s.counted s.words s.outbox
