-- The votes of a tray, one after the other: what the first leave stands in front of what the later ones will leave. Assumes nothing.
use mathlib.Core.Path.{◌≡◌, refl, sym, ap, ◌∙◌}
use mathlib.Core.Bool.{true}
use mathlib.Core.List.{List, [], ◌∷◌, ◌++◌, reverse, reverse-reverse, reverse-append, append-nil}
use Prim.Native.Nat.{ℕ, ◌+◌, ◌*◌, ◌≤◌, ◌<◌}
use native.Mathlib.Omega.{arith}
use native.Mathlib.Numerals.{add-one}
use lib.ListN.{length, get_or, set, take, drop, length-set, length-reverse, take-append-drop}
use lib.Seq.{take-suc-set, drop-set-lt, drop-drop, length-take-le}
use Rattle.std.specs.Prelude.{Result}
use Rattle.std.specs.Result.{result_unwrap_or}
use Rattle.rulebook.specs.declared.Vote.{Vote}
use Rattle.rulebook.specs.declared.Refusal.{Refusal}
use Rattle.rulebook.specs.declared.Input.TheVariants as input
use Rattle.rulebook.specs.PaperNumbers.{answer_number, step_panel}
use Rattle.rulebook.specs.Rules.{Record, State}
use Rattle.rulebook.specs.Inputs.{Fed, feed}
use Rattle.rulebook.specs.Messages.{vote_of}
use Rattle.rulebook.specs.Writers.{over}
use Rattle.rule_laws.proofs.WordLaws.{Words}
use Rattle.record.specs.Layout.{ledger_of}
use Rattle.record.specs.Spelling.{words_of}
use Rattle.record.proofs.Spelled.{long_spelled}
use Rattle.soundness.specs.Sound.{sound_words}
use Rattle.soundness.proofs.Laws.{sound_long, sound_ledger}
use Rattle.soundness.proofs.InStep.{sound_spelled, spelled_sound, spelled_as}
use Rattle.settling.proofs.SpareLaws.{spare_most}
use Rattle.settling.proofs.Soundness.{feed_sound}
use Rattle.voter.specs.Outbox.{records_in, Past}
use Rattle.voter.proofs.OutboxLaws.{made_in}
use Rattle.run.proofs.ScanLaws.{held_long}
use Rattle.node.specs.Stepping.{spelled}
use Rattle.node.proofs.SpelledLaws.{outbox_spelled}
use Rattle.tray_rules.specs.Trays.{votes_in, whole_votes, Served, ahead, serve}
use Rattle.trays.specs.Lent.{Serving, VoteServed, Ready, AllServed}
use Rattle.tray_rules.proofs.Words.{votes_end, votes_more, ahead_ahead, serve_more}

-- The first i votes are served: what they leave stands in front of what the others will leave.
pub record Going (ws out votes places ws' out' places' : List ℕ) (made i : ℕ) : Type 0 where
  pub few : i ≤ whole_votes votes
  pub serving : Serving ws' out' made
  pub size : length ws' ≡ length ws
  pub boxes : length out' ≡ length out
  pub kept : length places' ≡ length places
  pub rest : Past made out out'
  pub past : drop i places' ≡ drop i places
  pub forward : serve (ledger_of ws) (votes_in votes) ≡ ahead (take i places') (reverse (records_in out' made)) (serve (ledger_of ws') (votes_in (drop (4 * i) votes)))

pub going_start : {ws out votes places : List ℕ} → Ready ws out votes places → Going ws out votes places ws out places 0 0
unfolding records_in
going_start {ws = ws} h =
    record {
      few = omega arith;
      serving =
          record {
            sound = h.sound;
            live =
                record {
                  long = sound_long ws h.sound;
                  room = h.room;
                  sound = sound_ledger ws h.sound;
                  budget = omega (arith, spare_most (ledger_of ws));
                };
          };
      size = refl;
      boxes = refl;
      kept = refl;
      rest = λ k q. refl;
      past = refl;
      forward = refl;
    }

module _ {ws out votes places ws' out' places' : List ℕ} {made i : ℕ} (h : Going ws out votes places ws' out' places' made i) where
  module _ {ws'' out'' : List ℕ} {r : Result ℕ Refusal} (v : Vote) (b : i < whole_votes votes) (enough : whole_votes votes ≤ length places)
      (is : v ≡ vote_of (get_or votes (4 * i) 0) (get_or votes (4 * i + 1) 0) (get_or votes (4 * i + 2) 0) (get_or votes (4 * i + 3) 0))
      (s : VoteServed ws' out' made v ws'' out'' r) (w : Words ws'') where
    -- A fed node stays sound.
    still_sound : sound_words ws'' ≡ true
    still_sound =
        ap sound_words (spelled_as ws'' (feed (ledger_of ws') (input.Vote v)).ledger (long_spelled ws'' w s.onward.live.long) (ap (λ (x : State). x.ledger) s.onward.moved.is))
        ∙ spelled_sound (feed (ledger_of ws') (input.Vote v)).ledger (feed_sound (ledger_of ws') (sound_ledger ws' h.serving.sound) (input.Vote v))

    told : reverse (records_in out' made) ++ (feed (ledger_of ws') (input.Vote v)).records ≡ reverse (records_in out'' (result_unwrap_or r made))
    told =
        let f : List Record = (feed (ledger_of ws') (input.Vote v)).records in
        ap (λ (x : List Record). reverse (records_in out' made) ++ x) (sym (reverse-reverse f))
        ∙ sym (reverse-append (reverse f) (records_in out' made))
        ∙ ap (λ (x : State). reverse x.records) (sym s.onward.moved.is)

    numbered : take i places' ++ ((step_panel (feed (ledger_of ws') (input.Vote v)).answer).number ∷ []) ≡ take (i + 1) (set places' i (answer_number r))
    numbered =
        ap (λ (n : ℕ). take i places' ++ (n ∷ [])) (sym s.number)
        ∙ sym (take-suc-set places' i (answer_number r) (omega (arith, h.kept)))
        ∙ ap (λ (k : ℕ). take k (set places' i (answer_number r))) (sym (add-one i))

    -- One vote more.
    pub going_more : length out'' ≡ length out' → Going ws out votes places ws'' out'' (set places' i (answer_number r)) (result_unwrap_or r made) (i + 1)
    going_more same =
        let later : List Vote = votes_in (drop (4 * (i + 1)) votes) in
        let f : Fed = feed (ledger_of ws') (input.Vote v) in
        record {
          few = omega arith;
          serving = record { sound = still_sound; live = s.onward.live };
          size = held_long h.serving.live s.onward ∙ h.size;
          boxes = same ∙ h.boxes;
          kept = length-set places' i (answer_number r) ∙ h.kept;
          rest = λ k q. s.onward.moved.rest k q ∙ h.rest k (omega (arith, s.onward.moved.more));
          past =
              drop-set-lt (i + 1) places' i (answer_number r) (omega arith)
              ∙ sym (drop-drop 1 i places')
              ∙ ap (drop 1) h.past
              ∙ drop-drop 1 i places;
          forward =
              h.forward
              ∙ ap (λ (x : List Vote). ahead (take i places') (reverse (records_in out' made)) (serve (ledger_of ws') x))
              (votes_more votes i (omega arith) ∙ ap (λ (x : Vote). x ∷ later) (sym is))
              ∙ ap (ahead (take i places') (reverse (records_in out' made))) (serve_more (ledger_of ws') v later)
              ∙ ahead_ahead (take i places') ((step_panel f.answer).number ∷ []) (reverse (records_in out' made)) f.records (serve f.ledger later)
              ∙ (λ j. ahead (numbered j) (told j) (serve (sym s.onward.moved.is j).ledger later));
        }

  -- All votes are served.
  pub going_end : whole_votes votes ≤ i → whole_votes votes ≤ length places → AllServed ws out votes places ws' out' places' made
  unfolding serve over
  going_end b enough =
      let done : Served = ahead (take i places') (reverse (records_in out' made)) (serve (ledger_of ws') []) in
      let e : serve (ledger_of ws) (votes_in votes) ≡ done =
      h.forward ∙ ap (λ (x : List Vote). ahead (take i places') (reverse (records_in out' made)) (serve (ledger_of ws') x)) (votes_end votes i b) in
      let rs : (serve (ledger_of ws) (votes_in votes)).records ≡ reverse (records_in out' made) =
      ap (λ (x : Served). x.records) e ∙ append-nil (reverse (records_in out' made)) in
      let ns : (serve (ledger_of ws) (votes_in votes)).numbers ≡ take i places' =
      ap (λ (x : Served). x.numbers) e ∙ append-nil (take i places') in
      let many : made ≡ length (serve (ledger_of ws) (votes_in votes)).records =
      sym (ap length rs ∙ length-reverse (records_in out' made) ∙ made_in out' made) in
      let some : i ≡ length (serve (ledger_of ws) (votes_in votes)).numbers =
      sym (ap length ns ∙ length-take-le i places' (omega (arith, h.few, h.kept))) in
      record {
        many = many;
        words = sym (sound_spelled ws' h.serving.sound) ∙ ap (λ (x : Served). words_of x.ledger) (sym e);
        outbox =
            outbox_spelled out out' made h.boxes (omega (arith, h.serving.live.budget, h.serving.live.room)) h.rest
            ∙ (λ j. spelled (sym rs j) ++ drop (3 * many j) out);
        answers =
            sym (take-append-drop i places')
            ∙ ap (λ (x : List ℕ). take i places' ++ x) h.past
            ∙ (λ j. sym ns j ++ drop (some j) places);
      }
