-- What a tray promises, from its definition alone: one result; the votes as if they came singly; an empty run; at most 132 records; a sound
-- record again.
use Rattle.std.specs.Prelude.{Result, Ok}
use mathlib.Core.Path.{◌≡◌, refl, sym, ap, ◌∙◌}
use mathlib.Core.Bool.{true, ◌&&◌}
use mathlib.Core.List.{List, [], ◌∷◌, ◌++◌, map}
use Prim.Native.Nat.{ℕ, ◌%◌, ◌≤◌}
use native.Mathlib.Omega.{arith}
use lib.ListN.{length}
use lib.Dec.{eqb, leb}
use borrow.Author.Tests.{eq-eqb, le-leb}
use Rattle.rulebook.specs.declared.Vote.{Vote}
use Rattle.rulebook.specs.declared.Input.TheVariants as input
use Rattle.rulebook.specs.declared.Refusal.{Refusal}
use Rattle.rulebook.specs.declared.Refusal.TheVariants as refusal
use Rattle.rulebook.specs.PaperNumbers.{step_panel}
use Rattle.rulebook.specs.Ledger.{Ledger}
use Rattle.rulebook.specs.Rules.{Record}
use Rattle.rulebook.specs.Run.{most_records}
use Rattle.rulebook.specs.Inputs.{Fed, feed}
use Rattle.rulebook.specs.Taking.{Arrival, of_input, served}
use Rattle.rulebook.specs.WellFormed.{well_formed, outbox_words}
use Rattle.rule_laws.proofs.ToolLaws.{given_on, given_keeps, both_and}
use Rattle.settling.specs.Facts.{Sound}
use Rattle.settling.specs.Steps.{after, life}
use Rattle.settling.proofs.FeedLaws.{step_fed}
use Rattle.settling.proofs.Life.{life_within}
use Rattle.settling.proofs.Soundness.{feed_sound}
use Rattle.record.specs.Layout.{ledger_of}
use Rattle.record.specs.Spelling.{is_spelled}
use Rattle.soundness.specs.Sound.{sound_words}
use Rattle.soundness.proofs.Laws.{words_spelled, sound_ledger}
use Rattle.soundness.proofs.InStep.{spelled_sound}
use Rattle.tray_rules.specs.Trays.{votes_in, whole_votes, Served, Tray, ahead, serve, singly, tray_refused, tray_served, tray}
use Rattle.trays.specs.Lent.{Leaves, as_found, as_served, tray_leaves, TrayOf}

-- Any two results that a tray allows are equal: answer, record, outbox and answer buffer.
pub tray_one : (ws out votes places : List ℕ) (r r' : Result ℕ Refusal) (left left' box box' told told' : List ℕ)
    → TrayOf ws out votes places r left box told → TrayOf ws out votes places r' left' box' told'
    → (r ≡ r') × (left ≡ left') × (box ≡ box') × (told ≡ told')
tray_one ws out votes places r r' left left' box box' told told' a b =
    (a.answered ∙ sym b.answered, a.words ∙ sym b.words, a.outbox ∙ sym b.outbox, a.answers ∙ sym b.answers)

-- "Answers, records in order and node must equal feeding them singly, a refused vote in the middle included": single calls, each
-- of which tests record and outbox again.
pub as_singly : (l : Ledger) (room : ℕ) (vs : List Vote) → Sound l → outbox_words ≤ room → serve l vs ≡ singly l room vs
unfolding serve singly
as_singly l room [] h b = refl
as_singly l room (v ∷ vs) h b =
    let one : (f : Fed) → Served = λ f. ahead ((step_panel f.answer).number ∷ []) f.records (singly f.ledger room vs) in
    ap (ahead ((step_panel (feed l (input.Vote v)).answer).number ∷ []) (feed l (input.Vote v)).records)
    (as_singly (feed l (input.Vote v)).ledger room vs (feed_sound l h (input.Vote v)) b)
    ∙ ap one (sym (step_fed l (input.Vote v) room h.formed b))

-- A tray's votes arrive in the node's life.
abbrev pub arrivals : List Vote → List Arrival
arrivals vs = map (λ v. of_input (input.Vote v)) vs

pub serve_life : (l : Ledger) (vs : List Vote) → ((serve l vs).ledger ≡ after l (arrivals vs)) × ((serve l vs).records ≡ life l (arrivals vs))
unfolding serve after life served
serve_life l [] = (refl, refl)
serve_life l (v ∷ vs) =
    let f : Fed = feed l (input.Vote v) in
    let q = serve_life f.ledger vs in
    (q.0, ap (λ (rs : List Record). f.records ++ rs) q.1)

-- The life's total holds of a tray: 132 records at most, so that an outbox of 160 has room for all its votes together.
pub tray_within : (l : Ledger) (vs : List Vote) → Sound l → length (serve l vs).records ≤ most_records
tray_within l vs h =
    omega (arith, ap length (serve_life l vs).1, life_within l (arrivals vs) h)

-- What a tray's votes leave of a sound ledger is sound.
pub serve_sound : (l : Ledger) (vs : List Vote) → Sound l → Sound (serve l vs).ledger
unfolding serve
serve_sound l [] h = h
serve_sound l (v ∷ vs) h = serve_sound (feed l (input.Vote v)).ledger vs (feed_sound l h (input.Vote v))

tray_sound : (l : Ledger) (room places : ℕ) (votes : List ℕ) → Sound l → Sound (tray l room places votes).served.ledger
unfolding tray tray_refused tray_served
tray_sound l room places votes h =
    let kept : Tray → Type 0 = λ t. Sound t.served.ledger in
    let same : (r : Refusal) → kept (tray_refused l r) = λ r. serve_sound l [] h in
    given_keeps kept (well_formed l) _ _ (same refusal.BadRecord)
    (λ _. given_keeps kept (leb outbox_words room && leb (whole_votes votes) places) _ _ (same refusal.NoRoom)
    (λ _. given_keeps kept (eqb (length votes % 4) 0) _ _ (same refusal.BadLength) (λ _. serve_sound l (votes_in votes) h)))

-- What a tray leaves of a sound record is sound again, refused or served: it is never answered 17 later.
pub tray_leaves_sound : (ws out votes places : List ℕ) (r : Result ℕ Refusal) (left box told : List ℕ)
    → sound_words ws ≡ true → TrayOf ws out votes places r left box told → sound_words left ≡ true
unfolding tray_leaves
tray_leaves_sound ws out votes places r left box told s h =
    let t : Tray = tray (ledger_of ws) (length out) (length places) votes in
    let e : tray_leaves ws out votes places ≡ as_served t out places =
    given_on (is_spelled ws) (as_found refusal.BadRecord ws out places) (λ _. as_served t out places) (words_spelled ws s) in
    ap sound_words (h.words ∙ ap (λ (x : Leaves). x.words) e)
    ∙ spelled_sound t.served.ledger (tray_sound (ledger_of ws) (length out) (length places) votes (sound_ledger ws s))

-- "An empty run does nothing and answers 0; unlike a look it runs no rule."
pub tray_empty : (l : Ledger) (room places : ℕ) → well_formed l ≡ true → outbox_words ≤ room
    → tray l room places [] ≡ record { answer = Ok 0; served = record { numbers = []; ledger = l; records = [] } }
unfolding tray tray_served serve votes_in
tray_empty l room places h b =
    given_on (well_formed l) (tray_refused l refusal.BadRecord) _ h
    ∙ given_on (leb outbox_words room && leb (whole_votes []) places) (tray_refused l refusal.NoRoom) _
    (both_and (leb outbox_words room) (leb (whole_votes []) places) (le-leb outbox_words room b) (le-leb (whole_votes []) places (omega arith)))
    ∙ given_on (eqb (length {A = ℕ} [] % 4) 0) (tray_refused l refusal.BadLength) _ (eq-eqb (length {A = ℕ} [] % 4) 0 refl)
