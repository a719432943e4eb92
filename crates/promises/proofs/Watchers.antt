-- Watchers at the face. Assumes nothing.
use Rattle.std.specs.Prelude.{⊤, Result, Ok, Err}
use mathlib.Core.Path.{◌≡◌, refl, sym, ap, ◌∙◌}
use mathlib.Core.Bool.{Bool, true, false, not, ◌&&◌}
use mathlib.Core.List.{List, [], ◌∷◌, ◌++◌, append-nil}
use Prim.Native.Nat.{ℕ, zero, suc, ◌*◌, ◌%◌}
use native.Mathlib.Omega.{arith}
use lib.ListN.{length, get_or, length-reverse}
use lib.Dec.{eqb, leb, ltb}
use borrow.Author.Tests.{eq-eqb, ne_eqb, eqb-true, leb-false}
use Rattle.rulebook.specs.declared.Input.{Input}
use Rattle.rulebook.specs.declared.Input.TheVariants as input
use Rattle.rulebook.specs.declared.Place.{Place}
use Rattle.rulebook.specs.declared.Place.TheVariants as place
use Rattle.rulebook.specs.declared.Refusal.{Refusal}
use Rattle.rulebook.specs.declared.Refusal.TheVariants as refusal
use Rattle.rulebook.specs.declared.Slot.{Slot}
use Rattle.rulebook.specs.declared.Vote.{Vote}
use Rattle.rulebook.specs.Tools.{whenever}
use Rattle.rulebook.specs.PaperNumbers.{Panel, kind_in, refusal_number, verdict_number, start_panel, step_panel}
use Rattle.rulebook.specs.Weights.{places_for, slot_ok}
use Rattle.rulebook.specs.Ledger.{Ledger, is_watcher, fresh, cell_at, certificates_at}
use Rattle.rulebook.specs.Votes.{place_of}
use Rattle.rulebook.specs.Rules.{Record, State}
use Rattle.rulebook.specs.Certificates.{Certificate}
use Rattle.rulebook.specs.Inputs.{Fed, refuse_if, is_other, misfits, place_verdict, vote_verdict, timeout_verdict, watch_verdict, verdict, fed_with, refused_with, fed_on, feed}
use Rattle.rulebook.specs.Taking.{kept_verdict, taken_on, taken, Arrival, of_input, of_packet, served}
use Rattle.rulebook.specs.WellFormed.{well_formed, outbox_words, step, take_certificate}
use Rattle.rule_laws.proofs.ToolLaws.{given_on, given_keeps, by_test}
use Rattle.rule_laws.proofs.RuleLaws.{refuse_fine}
use Rattle.rule_laws.proofs.AcceptedLaws.{packet_cases}
use Rattle.rule_laws.proofs.PanelLaws.{done_told}
use Rattle.settling.specs.Facts.{Sound}
use Rattle.settling.specs.Steps.{life}
use Rattle.settling.proofs.Start.{watching_sound}
use Rattle.record.specs.Layout.{record_words, ledger_of}
use Rattle.starts.specs.Starting.{start_answer, start_left, watch_judged}
use Rattle.soundness.proofs.Laws.{words_spelled, sound_ledger}
use Rattle.soundness.proofs.InStep.{spelled_back}
use Rattle.starts.proofs.Starts.{watch_leaves_sound}
use Rattle.node.specs.Stepping.{spelled, as_fed, Leaves, step_leaves}
use Rattle.taking.specs.Taking.{take_leaves}
use Rattle.tray_rules.specs.Trays.{votes_in, whole_votes, serve, Tray, tray_refused, tray_served, tray}
use Rattle.trays.specs.Lent as trays
use Rattle.trays.specs.Lent.{as_served, tray_leaves}
use Rattle.trays.proofs.Theorems.{arrivals, serve_life}
use Rattle.watchers.specs.Watching.{tells_vote, as_votes}
use Rattle.watchers.proofs.Silent.{life_silent}
use Rattle.answers.specs.Face.{Beside, vote_input, timeout_input}
use Rattle.promises.specs.Panels.{shown, sound_first, step_judged}
use Rattle.promises.specs.Watchers.{FaceWatches, four_at_once, WatcherTimeoutFour, FaceTimeoutFour, NeverSix, FaceNeverSix, record_at, NoVoteTold, FaceNeverVotes}
use Rattle.promises.proofs.Shown.{step_shown}

-- ---- a watcher's start

watches_fresh : (stakes : List ℕ) (genesis : ℕ) → is_watcher (fresh stakes (length stakes) genesis) ≡ true
unfolding is_watcher fresh
watches_fresh stakes genesis = eq-eqb (length stakes) (length stakes) refl

-- Where a start is answered 0, the words are a fresh ledger's.
left_watches : (v : Result ⊤ Refusal) (ws stakes : List ℕ) (genesis : ℕ) (left : List ℕ) → Ok tt ≡ start_answer v → left ≡ start_left v ws stakes (length stakes) genesis
    → (v ≡ Ok tt → Sound (fresh stakes (length stakes) genesis)) → is_watcher (ledger_of left) ≡ true
unfolding start_answer start_left
left_watches (Ok tt) ws stakes genesis left e w h =
    ap (λ (x : List ℕ). is_watcher (ledger_of x)) w ∙ ap is_watcher (spelled_back (fresh stakes (length stakes) genesis) (h refl)) ∙ watches_fresh stakes genesis
left_watches (Err r) ws stakes genesis left e w h = absurd cc

pub face_watches : FaceWatches
unfolding watch_judged start_panel
face_watches ws stakes genesis left h =
    let v = watch_judged ws stakes genesis in
    let e : Ok tt ≡ start_answer v = sym (done_told (start_answer v) (sym h.numbered)).1 in
    record {
      sound = watch_leaves_sound ws stakes genesis left (record { answered = e; words = h.words });
      watcher = left_watches v ws stakes genesis left e h.words
          (λ f. watching_sound stakes genesis (refuse_fine (not (eqb (length ws) (record_words (places_for (length stakes))))) refusal.BadRecord (watch_verdict stakes genesis) f).1);
    }

-- ---- "Timeouts are refused with 4, right after 17 and 9."

timeout_judged : (ws out : List ℕ) (s : Slot) → is_watcher (ledger_of ws) ≡ true → step_judged ws out (input.Timeout s) ≡ four_at_once ws out
unfolding step_judged four_at_once verdict timeout_verdict refuse_if
timeout_judged ws out s w = rw w

pub watcher_timeout_four : WatcherTimeoutFour
unfolding shown
watcher_timeout_four ws out s a ws' left w h =
    ap (λ (p : Panel). p.number) (step_shown ws out (input.Timeout s) a ws' left h) ∙ ap verdict_number (timeout_judged ws out s w)

pub face_timeout_four : FaceTimeoutFour
face_timeout_four ws out slot number made ws' left w h =
    h.numbered ∙ watcher_timeout_four ws out _ (step_leaves ws out (timeout_input slot)).answer _ _ w (record { answered = refl; words = refl; outbox = refl })

-- ---- "A watcher has no own number, so 6 is never given."

-- A test before which 6 is not due.
refuse_not_six : (b : Bool) (r : Refusal) (v : Result ⊤ Refusal) → ¬ (refusal_number r ≡ 6) → ¬ (verdict_number v ≡ 6) → ¬ (verdict_number (refuse_if b r v) ≡ 6)
unfolding refuse_if verdict_number
refuse_not_six true r v h k = h
refuse_not_six false r v h k = k

place_not_six : (p : Place) → ¬ (verdict_number (place_verdict p) ≡ 6)
unfolding place_verdict verdict_number refusal_number
place_not_six place.Free e = omega (arith, e)
place_not_six place.Same e = omega (arith, e)
place_not_six place.Taken e = omega (arith, e)

-- A number that is in the table is not the one after the last.
named_not_six : (count own n : ℕ) (v : Result ⊤ Refusal) → own ≡ count → ¬ (verdict_number v ≡ 6)
    → ¬ (verdict_number (refuse_if (leb count n) refusal.BadNode (refuse_if (eqb n own) refusal.OwnName v)) ≡ 6)
unfolding refuse_if verdict_number refusal_number
named_not_six count own n v e k =
    by_test (leb count n) (λ t. rw t (λ d. omega (arith, d))) (λ t. rw (t, ne_eqb n own (λ d. omega (arith, leb-false count n t, d, e))) k)

vote_not_six : (l : Ledger) (v : Vote) → is_watcher l ≡ true → ¬ (verdict_number (vote_verdict l v) ≡ 6)
unfolding vote_verdict is_watcher refusal_number
vote_not_six l v w =
    refuse_not_six (is_other v.kind) refusal.BadKind _ (λ e. omega (arith, e))
    (refuse_not_six (not (slot_ok v.slot.0)) refusal.BadSlot _ (λ e. omega (arith, e))
    (named_not_six l.count l.own v.node.0 _ (eqb-true l.own l.count w)
    (refuse_not_six (misfits v.kind v.block) refusal.BadBlock _ (λ e. omega (arith, e))
    (place_not_six (place_of (cell_at l v.slot.0 v.node.0) v.kind v.block)))))

judged_not_six : (ws out : List ℕ) (v : Vote) → is_watcher (ledger_of ws) ≡ true → ¬ (verdict_number (step_judged ws out (input.Vote v)) ≡ 6)
unfolding step_judged sound_first verdict refusal_number
judged_not_six ws out v w =
    refuse_not_six _ refusal.BadRecord _ (λ e. omega (arith, e))
    (refuse_not_six (ltb (length out) outbox_words) refusal.NoRoom _ (λ e. omega (arith, e)) (vote_not_six (ledger_of ws) v w))

pub never_six : NeverSix
unfolding shown
never_six ws out v a ws' left w h e =
    judged_not_six ws out v w (sym (ap (λ (p : Panel). p.number) (step_shown ws out (input.Vote v) a ws' left h)) ∙ e)

pub face_never_six : FaceNeverSix
face_never_six ws out kind node slot block number made ws' left w h e =
    never_six ws out _ (step_leaves ws out (vote_input kind node slot block)).answer _ _ w (record { answered = refl; words = refl; outbox = refl })
    (sym h.numbered ∙ e)

-- ---- "a node that never votes"

-- A record that tells of a vote would be among the votes that are told.
none_told : (b : Bool) (x : Arrival) (ys : List Arrival) → whenever b (λ _. x ∷ []) [] ++ ys ≡ [] → (b ≡ false) × (ys ≡ [])
unfolding whenever
none_told true x ys e = absurd (omega (arith, ap length e))
none_told false x ys e = (refl, e)

-- Records that tell of no vote, as they stand in an outbox.
spelled_silent : (n : ℕ) (rs : List Record) (rest : List ℕ) → as_votes n rs ≡ [] → NoVoteTold (length rs) (spelled rs ++ rest)
unfolding as_votes spelled tells_vote
spelled_silent n [] rest e j h = absurd (omega (arith, h))
spelled_silent n (r ∷ rs) rest e zero h = (none_told (tells_vote r) _ (as_votes n rs) e).0
spelled_silent n (r ∷ rs) rest e (suc j) h =
    let front = r.kind ∷ r.slot ∷ r.block ∷ spelled rs ++ rest in
    let at : 3 * suc j ≡ suc (suc (suc (3 * j))) = omega arith in
    ap (λ (i : ℕ). let k = get_or front i 0 in leb 1 k && leb k 5) at ∙ spelled_silent n rs rest (none_told (tells_vote r) _ (as_votes n rs) e).1 j (omega (arith, h))

-- What a call leaves in an outbox tells of no vote, as far as its own count of records goes.
abbrev NeverVotes : Result ℕ Refusal → List Record → Type 0
NeverVotes a rs = (rest : List ℕ) (made : ℕ) → Beside made (step_panel a).values → NoVoteTold made (spelled rs ++ rest)

abbrev Unvoting : Fed → Type 0
Unvoting f = NeverVotes f.answer f.records

refused_unvoting : (l : Ledger) (r : Refusal) → Unvoting (refused_with l r)
unfolding refused_with step_panel
refused_unvoting l r rest made b j h = let e : made ≡ 0 = cc in absurd (omega (arith, e, h))

fed_unvoting : (n : ℕ) (o : State) → as_votes n (fed_with o).records ≡ [] → Unvoting (fed_with o)
unfolding fed_with step_panel
fed_unvoting n o e rest made b j h =
    let q : made ≡ length o.records = cc in
    spelled_silent n (fed_with o).records rest e j (omega (arith, h, q, length-reverse o.records))

module _ (l : Ledger) (s : Sound l) (w : is_watcher l ≡ true) where
  -- One arrival is a life of its own.
  served_none : (c : Arrival) → as_votes 0 (served l c).records ≡ []
  unfolding life
  served_none c = ap (as_votes 0) (sym (append-nil (served l c).records)) ∙ life_silent 0 (c ∷ []) l s w

  fed_on_unvoting : (v : Result ⊤ Refusal) (i : Input) → as_votes 0 (fed_on v l i).records ≡ [] → Unvoting (fed_on v l i)
  unfolding fed_on
  fed_on_unvoting (Ok tt) i e = fed_unvoting 0 _ e
  fed_on_unvoting (Err r) i e = refused_unvoting l r

  taken_on_unvoting : (v : Result ⊤ Refusal) (c : Certificate) → as_votes 0 (taken_on v l c).records ≡ [] → Unvoting (taken_on v l c)
  unfolding taken_on
  taken_on_unvoting (Ok tt) c e = fed_unvoting 0 _ e
  taken_on_unvoting (Err r) c e = refused_unvoting l r

  step_unvoting : (room : ℕ) (i : Input) → Unvoting (step l room i)
  unfolding step feed served
  step_unvoting room i =
      given_keeps Unvoting (well_formed l) _ _ (refused_unvoting l refusal.BadRecord)
      (λ _. given_keeps Unvoting (leb outbox_words room) _ _ (refused_unvoting l refusal.NoRoom) (λ _. fed_on_unvoting (verdict l i) i (served_none (of_input i))))

  take_unvoting : (room : ℕ) (packet : List ℕ) → Unvoting (take_certificate l room packet)
  unfolding take_certificate taken served
  take_unvoting room packet =
      given_keeps Unvoting (well_formed l) _ _ (refused_unvoting l refusal.BadRecord)
      (λ _. given_keeps Unvoting (leb outbox_words room) _ _ (refused_unvoting l refusal.NoRoom)
      (λ _. packet_cases (λ (f : Fed). as_votes 0 f.records ≡ [] → Unvoting f) l packet (λ r _. refused_unvoting l r)
      (λ c next _ _ e. taken_on_unvoting (kept_verdict (certificates_at l c.slot) (kind_in l.count c.kind) c.block) c e) (served_none (of_packet packet))))

  abbrev TrayUnvoting : Tray → Type 0
  TrayUnvoting t = NeverVotes t.answer t.served.records

  tray_refused_unvoting : (r : Refusal) → TrayUnvoting (tray_refused l r)
  unfolding tray_refused step_panel
  tray_refused_unvoting r rest made b j h = let e : made ≡ 0 = cc in absurd (omega (arith, e, h))

  serve_unvoting : (vs : List Vote) → TrayUnvoting (tray_served (serve l vs))
  unfolding tray_served step_panel
  serve_unvoting vs rest made b j h =
      let q : made ≡ length (serve l vs).records = cc in
      spelled_silent 0 (serve l vs).records rest (ap (as_votes 0) (serve_life l vs).1 ∙ life_silent 0 (arrivals vs) l s w) j (omega (arith, h, q))

  tray_unvoting : (room places : ℕ) (votes : List ℕ) → TrayUnvoting (tray l room places votes)
  unfolding tray
  tray_unvoting room places votes =
      given_keeps TrayUnvoting (well_formed l) _ _ (tray_refused_unvoting refusal.BadRecord)
      (λ _. given_keeps TrayUnvoting (leb outbox_words room && leb (whole_votes votes) places) _ _ (tray_refused_unvoting refusal.NoRoom)
      (λ _. given_keeps TrayUnvoting (eqb (length votes % 4) 0) _ _ (tray_refused_unvoting refusal.BadLength) (λ _. serve_unvoting (votes_in votes))))

-- The words of a watcher's record spell its ledger, and the outbox is the one that the call on that ledger leaves.
told_in : (made : ℕ) (left told : List ℕ) → left ≡ told → NoVoteTold made told → NoVoteTold made left
told_in made left told e n j h = ap (λ (x : List ℕ). tells_vote (record_at x j)) e ∙ n j h

pub face_never_votes : FaceNeverVotes
unfolding step_leaves take_leaves tray_leaves
face_never_votes =
    record {
      stepped = λ ws out i number made ws' left w h.
          let f = step (ledger_of ws) (length out) i in
          let on : step_leaves ws out i ≡ as_fed f out = given_on _ _ _ (words_spelled ws w.sound) in
          told_in made left _ (h.outbox ∙ ap (λ (x : Leaves). x.outbox) on)
          (step_unvoting (ledger_of ws) (sound_ledger ws w.sound) w.watcher (length out) i _ made (h.counted ∙ ap (λ (x : Leaves). (step_panel x.answer).values) on));
      taken = λ ws out packet number made ws' left w h.
          let f = take_certificate (ledger_of ws) (length out) packet in
          let on : take_leaves ws out packet ≡ as_fed f out = given_on _ _ _ (words_spelled ws w.sound) in
          told_in made left _ (h.outbox ∙ ap (λ (x : Leaves). x.outbox) on)
          (take_unvoting (ledger_of ws) (sound_ledger ws w.sound) w.watcher (length out) packet _ made (h.counted ∙ ap (λ (x : Leaves). (step_panel x.answer).values) on));
      trayed = λ ws out votes places number made ws' left answers w h.
          let t = tray (ledger_of ws) (length out) (length places) votes in
          let on : tray_leaves ws out votes places ≡ as_served t out places = given_on _ _ _ (words_spelled ws w.sound) in
          told_in made left _ (h.outbox ∙ ap (λ (x : trays.Leaves). x.outbox) on)
          (tray_unvoting (ledger_of ws) (sound_ledger ws w.sound) w.watcher (length out) (length places) votes _ made
          (h.counted ∙ ap (λ (x : trays.Leaves). (step_panel x.answer).values) on));
    }
