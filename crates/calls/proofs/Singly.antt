-- A tray that is answered 0 leaves what its votes leave in single calls of the step.
use mathlib.Core.Path.{◌≡◌, refl, sym, ap, ◌∙◌, subst}
use mathlib.Core.Bool.{true, ◌&&◌}
use mathlib.Core.List.{List, [], ◌∷◌, ◌++◌, map, append_assoc, append-nil}
use Prim.Native.Nat.{ℕ, ◌%◌}
use native.Mathlib.Omega.{arith}
use lib.ListN.{length}
use lib.Dec.{eqb, leb}
use borrow.Author.Tests.{le-leb}
use Rattle.rulebook.specs.declared.Input.TheVariants as input
use Rattle.rulebook.specs.declared.Refusal.{Refusal}
use Rattle.rulebook.specs.declared.Refusal.TheVariants as refusal
use Rattle.rulebook.specs.declared.Vote.{Vote}
use Rattle.rulebook.specs.PaperNumbers.{step_panel}
use Rattle.rulebook.specs.Ledger.{Ledger}
use Rattle.rulebook.specs.Inputs.{Fed, feed}
use Rattle.rulebook.specs.Rules.{Record}
use Rattle.rulebook.specs.Taking.{Arrival, of_input, served}
use Rattle.rulebook.specs.WellFormed.{well_formed, outbox_words}
use Rattle.rulebook.specs.Writers.{over}
use Rattle.rule_laws.proofs.ToolLaws.{given_on, given_off, given_keeps, by_test, both_and}
use Rattle.settling.specs.Facts.{Sound}
use Rattle.settling.proofs.Soundness.{feed_sound}
use Rattle.record.specs.Layout.{ledger_of}
use Rattle.record.specs.Spelling.{words_of, is_spelled}
use Rattle.soundness.specs.Sound.{sound_words}
use Rattle.soundness.proofs.Laws.{sound_ledger}
use Rattle.soundness.proofs.InStep.{sound_spelled, spelled_sound, spelled_back}
use Rattle.tray_rules.specs.Trays.{votes_in, whole_votes, Served, serve, Tray, tray_refused, tray_served, tray}
use Rattle.trays.specs.Lent as trays
use Rattle.trays.specs.Lent.{as_served, tray_leaves}
use Rattle.answers.specs.Face.{Trayed}
use Rattle.seen.specs.Seen.{Seen}
use Rattle.seen.proofs.Numbers.{refusal_above}
use Rattle.calls.specs.Operation.{Operation, one_input, a_tray, one_with, fed_by, first_records}
use Rattle.calls.specs.Life.{next, then}
use Rattle.calls.specs.Singly.{Singly, no_vote, one_vote, SinglyCalls, TrayAsVotes}
use Rattle.calls.proofs.OneCall.{read_spelled, CallServed, step_served}

pub singly_calls : SinglyCalls
singly_calls u v w [] [] k no_vote = k
singly_calls u v w (x ∷ vs) (n ∷ numbers) k (one_vote vote lent number made words left space m more) =
    singly_calls u (next v (one_input (input.Vote vote)) lent made words left) w vs numbers (then k (one_input (input.Vote vote)) lent number made words left m) more
singly_calls u v w [] (n ∷ numbers) k x4 = elim x4 [ ]
singly_calls u v w (x ∷ vs) [] k x5 = elim x5 [ ]

-- ---- the single calls are the votes served

-- What they answer, tell and leave, and what arrived with them.
record SameAs (v w : Seen) (numbers : List ℕ) (s : Served) (votes : List Vote) : Type 0 where
  answers : numbers ≡ s.numbers
  told : w.told ≡ v.told ++ s.records
  came : w.came ≡ v.came ++ map (λ x. of_input (input.Vote x)) votes
  words : w.words ≡ words_of s.ledger

one_came : (vote : Vote) (lent : List ℕ) → leb outbox_words (length lent) ≡ true → fed_by (one_input (input.Vote vote)) lent ≡ of_input (input.Vote vote) ∷ []
unfolding fed_by one_with
one_came vote lent t = given_on (leb outbox_words (length lent)) _ _ t

singly_served : (v w : Seen) (vs : List Vote) (numbers : List ℕ) → sound_words v.words ≡ true → Singly v vs numbers w
    → SameAs v w numbers (serve (ledger_of v.words) vs) vs
unfolding serve served
singly_served v w [] [] e no_vote =
    record { answers = refl; told = sym (append-nil v.told); came = sym (append-nil v.came); words = sym (sound_spelled v.words e) }
singly_served v w (x ∷ vs) (n ∷ numbers) e (one_vote vote lent number made words left space m more) =
    let l : Ledger = ledger_of v.words in
    let f : Fed = feed l (input.Vote vote) in
    let sure : Sound f.ledger = feed_sound l (sound_ledger v.words e) (input.Vote vote) in
    let d : CallServed v.words (of_input (input.Vote vote)) number made words left = step_served v.words lent (input.Vote vote) number made words left e m space in
    let u : Seen = next v (one_input (input.Vote vote)) lent made words left in
    let back : ledger_of words ≡ f.ledger = ap ledger_of d.words ∙ spelled_back f.ledger sure in
    let q : SameAs u w numbers (serve f.ledger vs) vs =
    subst (λ (m : Ledger). SameAs u w numbers (serve m vs) vs) back (singly_served u w vs numbers (ap sound_words d.words ∙ spelled_sound f.ledger sure) more) in
    record {
      answers = λ j. d.answered j ∷ q.answers j;
      told = q.told ∙ ap (λ (rs : List Record). (v.told ++ rs) ++ (serve f.ledger vs).records) d.told ∙ append_assoc v.told f.records (serve f.ledger vs).records;
      came = q.came ∙ ap (λ (is : List Arrival). (v.came ++ is) ++ map (λ x. of_input (input.Vote x)) vs) (one_came vote lent (le-leb outbox_words (length lent) space))
          ∙ append_assoc v.came (of_input (input.Vote vote) ∷ []) (map (λ x. of_input (input.Vote x)) vs);
      words = q.words;
    }
singly_served v w [] (n ∷ numbers) e x4 = elim x4 [ ]
singly_served v w (x ∷ vs) [] e x5 = elim x5 [ ]

-- ---- a tray that is answered 0

-- A refused tray is not.
none : (l : Ledger) (X : Type 0) (r : Refusal) → 0 ≡ (step_panel (tray_refused l r).answer).number → X
unfolding tray_refused step_panel
none l X r e = refusal_above r (sym e)

-- Its record is well formed, it has room and whole votes, and all of them are served.
record ServedAll (l : Ledger) (space places : ℕ) (votes : List ℕ) (t : Tray) : Type 0 where
  formed : well_formed l ≡ true
  fits : (leb outbox_words space && leb (whole_votes votes) places) ≡ true
  whole : eqb (length votes % 4) 0 ≡ true
  same : t ≡ tray_served (serve l (votes_in votes))

done_served : (l : Ledger) (space places : ℕ) (votes : List ℕ) → 0 ≡ (step_panel (tray l space places votes).answer).number
    → ServedAll l space places votes (tray l space places votes)
unfolding tray
done_served l space places votes =
    let Is : Tray → Type 0 = λ t. 0 ≡ (step_panel t.answer).number → ServedAll l space places votes t in
    given_keeps Is (well_formed l) _ _ (none l _ refusal.BadRecord)
    (λ w. given_keeps Is (leb outbox_words space && leb (whole_votes votes) places) _ _ (none l _ refusal.NoRoom)
    (λ r. given_keeps Is (eqb (length votes % 4) 0) _ _ (none l _ refusal.BadLength) (λ p. λ e. record { formed = w; fits = r; whole = p; same = refl })))

record ServedAs (ws lent votes places : List ℕ) : Type 0 where
  sound : sound_words ws ≡ true
  fits : (leb outbox_words (length lent) && leb (whole_votes votes) (length places)) ≡ true
  whole : eqb (length votes % 4) 0 ≡ true
  leaves : tray_leaves ws lent votes places ≡ as_served (tray_served (serve (ledger_of ws) (votes_in votes))) lent places

served_as : (ws lent votes places : List ℕ) → 0 ≡ (step_panel (tray_leaves ws lent votes places).answer).number → ServedAs ws lent votes places
unfolding tray_leaves sound_words step_panel
served_as ws lent votes places z =
    by_test (is_spelled ws)
    (λ t.
    let e : tray_leaves ws lent votes places ≡ as_served (tray (ledger_of ws) (length lent) (length places) votes) lent places = given_on _ _ _ t in
    let d = done_served (ledger_of ws) (length lent) (length places) votes (z ∙ ap (λ (x : trays.Leaves). (step_panel x.answer).number) e) in
    record {
      sound = both_and (is_spelled ws) (well_formed (ledger_of ws)) t d.formed;
      fits = d.fits;
      whole = d.whole;
      leaves = e ∙ ap (λ (x : Tray). as_served x lent places) d.same;
    })
    (λ t.
    let e : tray_leaves ws lent votes places ≡ trays.as_found refusal.BadRecord ws lent places = given_off _ _ _ t in
    refusal_above refusal.BadRecord (sym (z ∙ ap (λ (x : trays.Leaves). (step_panel x.answer).number) e)))

tray_came : (lent votes places answers : List ℕ) → (leb outbox_words (length lent) && leb (whole_votes votes) (length places)) ≡ true → eqb (length votes % 4) 0 ≡ true
    → fed_by (a_tray votes places answers) lent ≡ map (λ x. of_input (input.Vote x)) (votes_in votes)
unfolding fed_by
tray_came lent votes places answers t u = given_on _ _ _ t ∙ given_on _ _ _ u

pub tray_as_votes : TrayAsVotes
unfolding tray_served step_panel
tray_as_votes v w lent votes places made words left answers numbers h more =
    let d = served_as v.words lent votes places h.numbered in
    let s : Served = serve (ledger_of v.words) (votes_in votes) in
    let q = singly_served v w (votes_in votes) numbers d.sound more in
    let z : made ∷ [] ≡ length s.records ∷ [] = h.counted ∙ ap (λ (x : trays.Leaves). (step_panel x.answer).values) d.leaves in
    let many : made ≡ length s.records = cc in
    let told : first_records made left ≡ s.records =
    (λ j. first_records (many j) ((h.outbox ∙ ap (λ (x : trays.Leaves). x.outbox) d.leaves) j)) ∙ read_spelled s.records _ in
    let words_same : words ≡ w.words = h.words ∙ ap (λ (x : trays.Leaves). x.words) d.leaves ∙ sym q.words in
    let told_same : v.told ++ first_records made left ≡ w.told = ap (λ (rs : List Record). v.told ++ rs) told ∙ sym q.told in
    let came_same : v.came ++ fed_by (a_tray votes places answers) lent ≡ w.came =
    ap (λ (is : List Arrival). v.came ++ is) (tray_came lent votes places answers d.fits d.whole) ∙ sym q.came in (
      h.answered ∙ ap (λ (x : trays.Leaves). x.answers) d.leaves ∙ ap (λ (ns : List ℕ). over ns places) (sym q.answers),
      (λ i. record { words = words_same i; told = told_same i; came = came_same i }),
    )
