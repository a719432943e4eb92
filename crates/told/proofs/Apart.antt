-- Every way of making a record writes in the slot of that record alone, and what arrives in the slot that it names.
use Rattle.std.specs.Prelude.{⊤, Result, Ok, Err}
use mathlib.Core.Path.{◌≡◌, refl, sym, ap, ◌∙◌, subst}
use mathlib.Core.Bool.{Bool, true, false, ◌&&◌, ◌||◌}
use mathlib.Core.List.{List, [], ◌∷◌, ◌++◌, reverse}
use Prim.Native.Nat.{ℕ, ◌+◌, ◌*◌, ◌≤◌, ◌<◌}
use native.Mathlib.Omega.{arith}
use lib.Dec.{eqb, leb}
use lib.ListN.{length, get_or, drop}
use lib.Seq.{get_or-set_other}
use borrow.Author.Tests.{eq-eqb, eqb-false, leb-true, leb-false, le-leb}
use Rattle.rulebook.specs.declared.Input.{Input}
use Rattle.rulebook.specs.declared.Input.TheVariants as input
use Rattle.rulebook.specs.declared.Refusal.{Refusal}
use Rattle.rulebook.specs.declared.Refusal.TheVariants as refusal
use Rattle.rulebook.specs.declared.VoteKind.{VoteKind}
use Rattle.rulebook.specs.Certificates.{Certificate, Found}
use Rattle.rulebook.specs.Weights.{last_slot}
use Rattle.rulebook.specs.PaperNumbers.{vote_number, step_panel}
use Rattle.rulebook.specs.Ledger.{Ledger, Row, no_cell, no_initial, is_watcher, table_of, row_at, own_cell, certificates_at, put_row, put_timed_out, put_final, put_clash}
use Rattle.rulebook.specs.Votes.{store_vote}
use Rattle.rulebook.specs.Rules.{Record, record_of, State, state_of, cast, cast_skips}
use Rattle.rulebook.specs.Run.{run}
use Rattle.rulebook.specs.Inputs.{Fed, keep_block, time_out, verdict, intake, fed_with, refused_with, fed_on, feed}
use Rattle.rulebook.specs.Checker.{judge}
use Rattle.rulebook.specs.Taking.{kept_verdict, keep_certificate, taken_on, taken, Arrival, of_input, of_packet, served}
use Rattle.rulebook.specs.WellFormed.{outbox_words}
use Rattle.rule_laws.proofs.AcceptedLaws.{packet_cases}
use Rattle.rule_laws.proofs.ToolLaws.{by_test, given_keeps, part_on, true_not_false}
use Rattle.settling.specs.Facts.{Sound}
use Rattle.settling.specs.Steps.{Lawful, AndVotes, kind_for, life}
use Rattle.settling.proofs.Places.{row_else, row_cases}
use Rattle.settling.proofs.LawfulRules.{voter_casting, skips_keep, run_keeps}
use Rattle.settling.proofs.Life.{taken_fine, served_paid}
use Rattle.settling.proofs.Sounding.{sound_certificate, sound_timed_out}
use Rattle.settling.proofs.Soundness.{sound_lawful, intake_sound, served_sound}
use Rattle.settling.proofs.Spending.{run_comes}
use Rattle.settling.proofs.Verdicts.{timeout_fine}
use Rattle.safety.specs.Ring.{after_all}
use Rattle.record.specs.Layout.{ledger_of}
use Rattle.record.specs.Spelling.{words_of}
use Rattle.soundness.specs.Sound.{sound_words}
use Rattle.soundness.proofs.Laws.{sound_ledger}
use Rattle.soundness.proofs.InStep.{sound_spelled}
use Rattle.node.specs.Stepping.{spelled, as_fed, Leaves}
use Rattle.seen.specs.Seen.{ledger_in}
use Rattle.seen.proofs.Alive.{alive_common}
use Rattle.calls.specs.Operation.{fed_by, first_records}
use Rattle.calls.proofs.OneCall.{step_leaves_lem, call_did}
use Rattle.told.specs.Told.{count_of, tells}
use Rattle.told.specs.Apart.{is_for, names, some_names, casts, Apart, OtherSlotsStay, AsFound, QuietLook}
use Rattle.told.proofs.Counting.{count_reverse, count_append}
use Rattle.told.proofs.Once.{vote_low}

-- ---- rows one after the other

apart_self : (own s : ℕ) (rs : List Record) (a b : Row) → b ≡ a → Apart own rs s a b
apart_self own s rs a b e =
    record {
      votes = λ n _. ap (λ (r : Row). get_or r.cells n no_cell) e;
      blocks = ap (λ (r : Row). r.blocks) e;
      certificates = ap (λ (r : Row). r.certificates) e;
      timed_out = ap (λ (r : Row). r.timed_out) e;
      own_votes = λ _. ap (λ (r : Row). get_or r.cells own no_cell) e;
      card = λ _. ap (λ (r : Row). r.card) e;
      final = λ _. ap (λ (r : Row). r.final) e;
      another = λ _. ap (λ (r : Row). r.clash) e;
    }

-- Where records are counted together, none is counted of either.
apart_then : (own s : ℕ) (rs qs ts : List Record) (a b c : Row) → ((p : Record → Bool) → count_of p ts ≡ count_of p rs + count_of p qs)
    → Apart own rs s a b → Apart own qs s b c → Apart own ts s a c
apart_then own s rs qs ts a b c e f g =
    let first : (p : Record → Bool) → count_of p ts ≡ 0 → count_of p rs ≡ 0 = λ p z. omega (arith, e p, z) in
    let second : (p : Record → Bool) → count_of p ts ≡ 0 → count_of p qs ≡ 0 = λ p z. omega (arith, e p, z) in
    record {
      votes = λ n ne. g.votes n ne ∙ f.votes n ne;
      blocks = g.blocks ∙ f.blocks;
      certificates = g.certificates ∙ f.certificates;
      timed_out = g.timed_out ∙ f.timed_out;
      own_votes = λ z. g.own_votes (second (casts s) z) ∙ f.own_votes (first (casts s) z);
      card = λ z. g.card (second (casts s) z) ∙ f.card (first (casts s) z);
      final = λ z. g.final (second (tells 6 s) z) ∙ f.final (first (tells 6 s) z);
      another = λ z. g.another (second (tells 8 s) z) ∙ f.another (first (tells 8 s) z);
    }

-- ---- one record

-- A record that passes is counted.
counted : (p : Record → Bool) (r : Record) → p r ≡ true → count_of p (r ∷ []) ≡ 0 → ⊥
unfolding count_of
counted p r e z = omega (arith, part_on (p r) 1 e, z)

and_on : (a b : Bool) → a ≡ true → b ≡ true → (a && b) ≡ true
and_on a b e f = rw (e, f) refl

cast_noted : (k : VoteKind) (s b : ℕ) → count_of (casts s) (record_of (vote_number k) s b ∷ []) ≡ 0 → ⊥
cast_noted k s b z =
    counted (casts s) (record_of (vote_number k) s b) (and_on (leb (vote_number k) 5) (eqb s s) (le-leb (vote_number k) 5 (vote_low k)) (eq-eqb s s refl)) z

mark_noted : (k s b : ℕ) → count_of (tells k s) (record_of k s b ∷ []) ≡ 0 → ⊥
mark_noted k s b z = counted (tells k s) (record_of k s b) (and_on (eqb k k) (eqb s s) (eq-eqb k k refl) (eq-eqb s s refl)) z

module _ (l : Ledger) (h : Sound l) (t : ℕ) (high : t ≤ last_slot) (s : ℕ) where
  there : t < length l.rows
  there = omega (arith, h.shaped.rows)

  vote_apart : (k : VoteKind) (b : ℕ) → Apart l.own (record_of (vote_number k) t b ∷ []) s (row_at l s) (row_at (store_vote l t l.own k b) s)
  unfolding store_vote
  vote_apart k b =
      row_cases l t _ (λ i x. Apart l.own (record_of (vote_number k) t b ∷ []) i (row_at l i) x) s there
      (record {
        votes = λ n ne. get_or-set_other (row_at l t).cells l.own n _ no_cell ne;
        blocks = refl;
        certificates = refl;
        timed_out = refl;
        own_votes = λ z. absurd (cast_noted k t b z);
        card = λ z. absurd (cast_noted k t b z);
        final = λ _. refl;
        another = λ _. refl;
      })
      (λ _. apart_self l.own s _ (row_at l s) (row_at l s) refl)

  final_apart : (b : ℕ) → Apart l.own (record_of 6 t b ∷ []) s (row_at l s) (row_at (put_final l t b) s)
  final_apart b =
      row_cases l t _ (λ i x. Apart l.own (record_of 6 t b ∷ []) i (row_at l i) x) s there
      (record {
        votes = λ n ne. refl;
        blocks = refl;
        certificates = refl;
        timed_out = refl;
        own_votes = λ _. refl;
        card = λ _. refl;
        final = λ z. absurd (mark_noted 6 t b z);
        another = λ _. refl;
      })
      (λ _. apart_self l.own s _ (row_at l s) (row_at l s) refl)

  clash_apart : (b : ℕ) → Apart l.own (record_of 8 t b ∷ []) s (row_at l s) (row_at (put_clash l t) s)
  clash_apart b =
      row_cases l t _ (λ i x. Apart l.own (record_of 8 t b ∷ []) i (row_at l i) x) s there
      (record {
        votes = λ n ne. refl;
        blocks = refl;
        certificates = refl;
        timed_out = refl;
        own_votes = λ _. refl;
        card = λ _. refl;
        final = λ _. refl;
        another = λ z. absurd (mark_noted 8 t b z);
      })
      (λ _. apart_self l.own s _ (row_at l s) (row_at l s) refl)

-- ---- the rules

-- A state whose row of slot s came of row a so.
record Leaving (own s : ℕ) (a : Row) (o : State) : Type 0 where
  pub sound : Sound o.ledger
  pub mine : o.ledger.own ≡ own
  pub apart : Apart own o.records s a (row_at o.ledger s)

-- One more record, in front of the others.
count_front : (r : Record) (rs : List Record) (p : Record → Bool) → count_of p (r ∷ rs) ≡ count_of p rs + count_of p (r ∷ [])
unfolding count_of
count_front r rs p = omega arith

one_more : (own s : ℕ) (a : Row) (o : State) → Leaving own s a o → (m : Ledger) (r : Record) → Sound m → m.own ≡ o.ledger.own
    → Apart o.ledger.own (r ∷ []) s (row_at o.ledger s) (row_at m s) → Leaving own s a (state_of m (r ∷ o.records))
one_more own s a o h m r k e f =
    record {
      sound = k;
      mine = e ∙ h.mine;
      apart =
          apart_then own s o.records (r ∷ []) (r ∷ o.records) a (row_at o.ledger s) (row_at m s) (count_front r o.records) h.apart
          (subst (λ (n : ℕ). Apart n (r ∷ []) s (row_at o.ledger s) (row_at m s)) h.mine f);
    }

leaving_lawful : (own s : ℕ) (a : Row) → Lawful (Leaving own s a)
unfolding cast store_vote
leaving_lawful own s a =
    record {
      sound = λ o h. h.sound;
      vote = λ o t k b low high v e m w h.
          one_more own s a o h _ _ (sound_lawful.vote o t k b low high v e m w h.sound) refl (vote_apart o.ledger h.sound t high s k b);
      arm = λ o t low high e h. one_more own s a o h _ _ (sound_lawful.arm o t low high e h.sound) refl (apart_self _ s _ _ _ refl);
      tell = λ o t b low high e m h. one_more own s a o h _ _ (sound_lawful.tell o t b low high e m h.sound) refl (final_apart o.ledger h.sound t high s b);
      clash = λ o t b low high e h. one_more own s a o h _ _ (sound_lawful.clash o t b low high e h.sound) refl (clash_apart o.ledger h.sound t high s b);
    }

-- ---- what arrives

module _ (l : Ledger) (h : Sound l) (s : ℕ) where
  abbrev Left : State → Type 0
  Left = Leaving l.own s (row_at l s)

  abbrev Serves : Fed → Type 0
  Serves f = Apart l.own f.records s (row_at l s) (row_at f.ledger s)

  -- A row of another slot was written.
  begins : (t : ℕ) (r : Row) → Sound (put_row l t r) → eqb t s ≡ false → Left (state_of (put_row l t r) [])
  begins t r k ne = record { sound = k; mine = refl; apart = apart_self l.own s [] (row_at l s) _ (row_else l t r s (λ q. eqb-false t s ne (sym q))) }

  input_left : (i : Input) → verdict l i ≡ Ok tt → names (of_input i) s ≡ false → Left (intake l i)
  unfolding intake verdict time_out keep_block store_vote is_watcher names
  input_left (input.Vote v) e ne = begins v.slot.0 _ (intake_sound l h (input.Vote v) e) ne
  input_left (input.Block t b) e ne = begins t.0 _ (intake_sound l h (input.Block t b) e) ne
  input_left (input.Timeout t) e ne =
      let g = timeout_fine l t.0 e in
      let o : State = state_of (put_timed_out l t.0) [] in
      let k : Left o = begins t.0 _ (sound_timed_out l h t.0 g.low g.high) ne in
      given_keeps Left (no_initial (own_cell l t.0)) o (λ _. cast_skips o t.0) k
      (λ _. (skips_keep (AndVotes Left) (voter_casting Left (leaving_lawful l.own s (row_at l s))) t.0 g.low g.high o (k, g.votes)).0)
  input_left input.Look e ne = record { sound = h; mine = refl; apart = apart_self l.own s [] (row_at l s) (row_at l s) refl }

  none_of : (xs ys : List Record) → ((p : Record → Bool) → count_of p ys ≡ count_of p xs) → (b : Row) → Apart l.own xs s (row_at l s) b → Apart l.own ys s (row_at l s) b
  unfolding count_of
  none_of xs ys e b f = apart_then l.own s xs [] ys (row_at l s) b b (λ p. omega (arith, e p)) f (apart_self l.own s [] b b refl)

  run_left : (o : State) → Left o → Serves (fed_with (run o))
  unfolding fed_with
  run_left o k =
      none_of (run o).records _ (λ p. count_reverse p (run o).records) (row_at (run o).ledger s) (run_keeps Left (leaving_lawful l.own s (row_at l s)) o k).apart

  refused_left : Apart l.own [] s (row_at l s) (row_at l s)
  refused_left = apart_self l.own s [] (row_at l s) (row_at l s) refl

  fed_left : (v : Result ⊤ Refusal) (i : Input) → verdict l i ≡ v → names (of_input i) s ≡ false → Serves (fed_on v l i)
  unfolding fed_on refused_with
  fed_left (Ok tt) i e ne = run_left (intake l i) (input_left i e ne)
  fed_left (Err r) i e ne = refused_left

  taken_left : (v : Result ⊤ Refusal) (c : Certificate) → judge (table_of l) c ≡ Ok tt → kept_verdict (certificates_at l c.slot) (kind_for l c) c.block ≡ v → eqb c.slot s ≡ false → Serves (taken_on v l c)
  unfolding taken_on refused_with keep_certificate
  taken_left (Ok tt) c j e ne = run_left (state_of (keep_certificate l c) []) (begins c.slot _ (sound_certificate l h c (taken_fine l h c j e)) ne)
  taken_left (Err r) c j e ne = refused_left

  served_left : (i : Arrival) → names i s ≡ false → Serves (served l i)
  unfolding served feed taken refused_with names is_for
  served_left (of_input i) ne = fed_left (verdict l i) i refl ne
  served_left (of_packet bytes) ne =
      packet_cases Serves l bytes (λ r. refused_left)
      (λ c next e j. taken_left (kept_verdict (certificates_at l c.slot) (kind_for l c) c.block) c j refl (ap (λ (x : Found). is_for x s) (sym e) ∙ ne))

or_none : (a b : Bool) → (a || b) ≡ false → (a ≡ false) × (b ≡ false)
or_none true b e = true_not_false _ refl e
or_none false b e = (refl, e)

served_own : (l : Ledger) → Sound l → (i : Arrival) → (served l i).ledger.own ≡ l.own
served_own l h i = (served_paid l h i).same.own

-- ---- all that arrives with a call

life_left : (l : Ledger) (is : List Arrival) → Sound l → (s : ℕ) → some_names is s ≡ false → Apart l.own (life l is) s (row_at l s) (row_at (after_all l is) s)
unfolding after_all life some_names
life_left l [] h s ne = apart_self l.own s [] (row_at l s) (row_at l s) refl
life_left l (i ∷ is) h s ne =
    let m : Ledger = (served l i).ledger in
    let z = or_none (names i s) (some_names is s) ne in
    let rest = life_left m is (served_sound l h i) s z.1 in
    apart_then l.own s (served l i).records (life m is) ((served l i).records ++ life m is) (row_at l s) (row_at m s) (row_at (after_all m is) s) (λ p. count_append p (served l i).records (life m is))
    (served_left l h s i z.0) (subst (λ (n : ℕ). Apart n (life m is) s (row_at m s) (row_at (after_all m is) s)) (served_own l h i) rest)

pub other_slots_stay : OtherSlotsStay
other_slots_stay stakes genesis v alive o lent number made words left met s ne =
    let l : Ledger = ledger_in v in
    let sound = (alive_common alive).lived.sound in
    let d = call_did o v.words lent number made words left sound met in
    let f = life_left l (fed_by o lent) (sound_ledger v.words sound) s ne in
    subst (λ (m : Ledger). Apart l.own (first_records made left) s (row_at l s) (row_at m s)) (sym d.ledger)
    (subst (λ (rs : List Record). Apart l.own rs s (row_at l s) (row_at (after_all l (fed_by o lent)) s)) (sym d.told) f)

-- ---- a look

module _ (ws lent : List ℕ) (sound : sound_words ws ≡ true) where
  -- What is fed leaves all as found where it leaves the ledger and tells nothing.
  as_found_lem : (f : Fed) → f.ledger ≡ ledger_of ws → f.records ≡ [] → (words left : List ℕ) → words ≡ (as_fed f lent).words → left ≡ (as_fed f lent).outbox → AsFound ws lent words left
  unfolding spelled
  as_found_lem f e r words left a b =
      record {
        kept = a ∙ ap words_of e ∙ sound_spelled ws sound;
        outbox = b ∙ ap (λ (rs : List Record). spelled rs ++ drop (3 * length rs) lent) r;
      }

  -- A run that makes no record leaves the state.
  look_quiet : (words left : List ℕ) → 0 ∷ [] ≡ (step_panel (served (ledger_of ws) (of_input input.Look)).answer).values
      → words ≡ (as_fed (served (ledger_of ws) (of_input input.Look)) lent).words → left ≡ (as_fed (served (ledger_of ws) (of_input input.Look)) lent).outbox → AsFound ws lent words left
  unfolding served feed verdict fed_on intake fed_with step_panel
  look_quiet words left c a b =
      let o : State = state_of (ledger_of ws) [] in
      let z : 0 ≡ length (run o).records = cc in
      let same : run o ≡ o = (run_comes o (sound_ledger ws sound)).still (sym z) in
      as_found_lem (served (ledger_of ws) (of_input input.Look)) (ap (λ (p : State). p.ledger) same) (ap (λ (p : State). reverse p.records) same) words left a b

pub quiet_look : QuietLook
unfolding refused_with
quiet_look stakes genesis v alive lent number words left m =
    let ws : List ℕ = v.words in
    let sound = (alive_common alive).lived.sound in
    let one = step_leaves_lem ws lent sound input.Look in
    by_test (leb outbox_words (length lent))
    (λ t.
    let q = one.fed (leb-true outbox_words (length lent) t) in
    look_quiet ws lent sound words left (m.counted ∙ ap (λ (x : Leaves). (step_panel x.answer).values) q) (m.words ∙ ap (λ (x : Leaves). x.words) q) (m.outbox ∙ ap (λ (x : Leaves). x.outbox) q))
    (λ t.
    let q = one.short (leb-false outbox_words (length lent) t) in
    as_found_lem ws lent sound (refused_with (ledger_of ws) refusal.NoRoom) refl refl words left (m.words ∙ ap (λ (x : Leaves). x.words) q) (m.outbox ∙ ap (λ (x : Leaves). x.outbox) q))
