-- Each way through a tray is what the definition says, word for word. Assumes nothing.
use Rattle.std.specs.Prelude.{Result, Ok, Err}
use mathlib.Core.Path.{◌≡◌, refl, sym, ap, ◌∙◌}
use mathlib.Core.Bool.{Bool, true, false, ◌&&◌}
use mathlib.Core.List.{List}
use Prim.Native.Nat.{ℕ, ◌%◌, ◌≤◌, ◌<◌}
use lib.ListN.{length}
use lib.Dec.{eqb, leb}
use borrow.Author.Tests.{eq-eqb, ne_eqb, le-leb, lt-leb}
use Rattle.rulebook.specs.declared.Refusal.{Refusal}
use Rattle.rulebook.specs.declared.Refusal.TheVariants as refusal
use Rattle.rulebook.specs.Tools.{whenever}
use Rattle.rulebook.specs.WellFormed.{well_formed, outbox_words}
use Rattle.rulebook.specs.Writers.{over}
use Rattle.rule_laws.proofs.ToolLaws.{given_on, given_off, by_test, both_and}
use Rattle.record.specs.Layout.{ledger_of}
use Rattle.record.specs.Spelling.{is_spelled}
use Rattle.record.proofs.Spelled.{spelled_words}
use Rattle.soundness.specs.Sound.{sound_words}
use Rattle.soundness.proofs.Laws.{words_spelled, sound_formed}
use Rattle.node.specs.Stepping.{spelled}
use Rattle.node.proofs.StepLaws.{and_second}
use Rattle.tray_rules.specs.Trays.{votes_in, whole_votes, Tray, serve, tray_refused, tray_served, tray}
use Rattle.trays.specs.Lent.{Leaves, as_found, as_served, tray_leaves, TrayOf, AllServed}

second_off : (a b : Bool) → b ≡ false → (a && b) ≡ false
second_off true b e = e
second_off false b e = refl

-- Whatever equals the definition is allowed.
tray_of : {ws out votes places ws' out' places' : List ℕ} {r : Result ℕ Refusal} (f : Leaves) → f ≡ tray_leaves ws out votes places
    → r ≡ f.answer → ws' ≡ f.words → out' ≡ f.outbox → places' ≡ f.answers → TrayOf ws out votes places r ws' out' places'
tray_of f e a b c d =
    record {
      answered = a ∙ ap (λ (x : Leaves). x.answer) e;
      words = b ∙ ap (λ (x : Leaves). x.words) e;
      outbox = c ∙ ap (λ (x : Leaves). x.outbox) e;
      answers = d ∙ ap (λ (x : Leaves). x.answers) e;
    }

module _ (ws out votes places : List ℕ) where
  leaves_spelled : is_spelled ws ≡ true → as_served (tray (ledger_of ws) (length out) (length places) votes) out places ≡ tray_leaves ws out votes places
  unfolding tray_leaves
  leaves_spelled e =
      sym (given_on (is_spelled ws) (as_found refusal.BadRecord ws out places)
      (λ _. as_served (tray (ledger_of ws) (length out) (length places) votes) out places) e)

  leaves_none : is_spelled ws ≡ false → as_found refusal.BadRecord ws out places ≡ tray_leaves ws out votes places
  unfolding tray_leaves
  leaves_none e =
      sym (given_off (is_spelled ws) (as_found refusal.BadRecord ws out places)
      (λ _. as_served (tray (ledger_of ws) (length out) (length places) votes) out places) e)

  -- A refused tray leaves all as found.
  served_none : (r : Refusal) → is_spelled ws ≡ true → as_served (tray_refused (ledger_of ws) r) out places ≡ as_found r ws out places
  unfolding tray_refused serve spelled over
  served_none r e = ap (λ (x : List ℕ). as_found r x out places) (spelled_words ws e)

  refused_by_lem : (r : Refusal) → is_spelled ws ≡ true → tray (ledger_of ws) (length out) (length places) votes ≡ tray_refused (ledger_of ws) r
      → TrayOf ws out votes places (Err r) ws out places
  refused_by_lem r e is =
      tray_of (as_found r ws out places) (sym (served_none r e) ∙ ap (λ (f : Tray). as_served f out places) (sym is) ∙ leaves_spelled e) refl refl refl refl

  -- 17.
  pub tray_unsound : sound_words ws ≡ false → TrayOf ws out votes places (Err refusal.BadRecord) ws out places
  unfolding sound_words tray
  tray_unsound e =
      by_test (is_spelled ws)
      (λ t.
      refused_by_lem refusal.BadRecord t
      (given_off (well_formed (ledger_of ws)) (tray_refused (ledger_of ws) refusal.BadRecord) _ (and_second (is_spelled ws) (well_formed (ledger_of ws)) t e)))
      (λ t. tray_of (as_found refusal.BadRecord ws out places) (leaves_none t) refl refl refl refl)

  module _ (s : sound_words ws ≡ true) where
    formed_on : (f : Unit {0} → Tray) → whenever (well_formed (ledger_of ws)) f (tray_refused (ledger_of ws) refusal.BadRecord) ≡ f tt
    formed_on f = given_on (well_formed (ledger_of ws)) (tray_refused (ledger_of ws) refusal.BadRecord) f (sound_formed ws s)

    cramped : (leb outbox_words (length out) && leb (whole_votes votes) (length places)) ≡ false
        → TrayOf ws out votes places (Err refusal.NoRoom) ws out places
    unfolding tray
    cramped e =
        refused_by_lem refusal.NoRoom (words_spelled ws s)
        (formed_on _ ∙ given_off (leb outbox_words (length out) && leb (whole_votes votes) (length places)) (tray_refused (ledger_of ws) refusal.NoRoom) _ e)

    -- 9 for the outbox.
    pub outbox_cramped : length out < outbox_words → TrayOf ws out votes places (Err refusal.NoRoom) ws out places
    outbox_cramped h = cramped (rw (lt-leb outbox_words (length out) h))

    -- 9 for the answer buffer.
    pub answers_cramped : length places < whole_votes votes → TrayOf ws out votes places (Err refusal.NoRoom) ws out places
    answers_cramped h =
        cramped (second_off (leb outbox_words (length out)) (leb (whole_votes votes) (length places)) (lt-leb (whole_votes votes) (length places) h))

    module _ (room : outbox_words ≤ length out) (enough : whole_votes votes ≤ length places) where
      room_on : (f : Unit {0} → Tray)
          → whenever (leb outbox_words (length out) && leb (whole_votes votes) (length places)) f (tray_refused (ledger_of ws) refusal.NoRoom) ≡ f tt
      room_on f =
          given_on (leb outbox_words (length out) && leb (whole_votes votes) (length places)) (tray_refused (ledger_of ws) refusal.NoRoom) f
          (both_and (leb outbox_words (length out)) (leb (whole_votes votes) (length places)) (le-leb outbox_words (length out) room) (le-leb (whole_votes votes) (length places) enough))

      -- 12.
      pub tray_part : (length votes % 4 ≡ 0 → ⊥) → TrayOf ws out votes places (Err refusal.BadLength) ws out places
      unfolding tray
      tray_part q =
          refused_by_lem refusal.BadLength (words_spelled ws s)
          (formed_on _ ∙ room_on _ ∙ given_off (eqb (length votes % 4) 0) (tray_refused (ledger_of ws) refusal.BadLength) _ (ne_eqb (length votes % 4) 0 q))

      -- Each vote served.
      pub tray_done : {ws' out' places' : List ℕ} {n : ℕ} → length votes % 4 ≡ 0 → AllServed ws out votes places ws' out' places' n
          → TrayOf ws out votes places (Ok n) ws' out' places'
      unfolding tray tray_served
      tray_done q a =
          let is : tray (ledger_of ws) (length out) (length places) votes ≡ tray_served (serve (ledger_of ws) (votes_in votes)) =
          formed_on _ ∙ room_on _ ∙ given_on (eqb (length votes % 4) 0) (tray_refused (ledger_of ws) refusal.BadLength) _ (eq-eqb (length votes % 4) 0 q) in
          tray_of (as_served (tray_served (serve (ledger_of ws) (votes_in votes))) out places)
          (ap (λ (f : Tray). as_served f out places) (sym is) ∙ leaves_spelled (words_spelled ws s))
          (ap Ok a.many) a.words a.outbox a.answers
