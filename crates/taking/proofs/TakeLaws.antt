-- Each way through taking a packet is what the definition says, word for word. Assumes nothing.
use Rattle.std.specs.Prelude.{Ok, Err}
use mathlib.Core.Path.{◌≡◌, refl, sym, ap, ◌∙◌}
use mathlib.Core.Bool.{true, false}
use mathlib.Core.List.{List, []}
use Prim.Native.Nat.{ℕ, ◌≤◌, ◌<◌}
use native.Mathlib.Omega.{arith}
use lib.ListN.{length}
use Rattle.rulebook.specs.declared.Accepted.{Accepted}
use Rattle.rulebook.specs.declared.Refusal.{Refusal}
use Rattle.rulebook.specs.declared.Refusal.TheVariants as refusal
use Rattle.rulebook.specs.Ledger.{table_of, certificates_at}
use Rattle.rulebook.specs.Rules.{state_of}
use Rattle.rulebook.specs.Run.{run}
use Rattle.rulebook.specs.Inputs.{Fed, refused_with}
use Rattle.rulebook.specs.Checker.{check_certificate}
use Rattle.rulebook.specs.Taking.{kept_verdict, keep_certificate, take_packet}
use Rattle.rulebook.specs.WellFormed.{well_formed, outbox_words, take_certificate}
use Rattle.rule_laws.proofs.ToolLaws.{given_on, given_off, by_test}
use Rattle.rule_laws.proofs.WordLaws.{Words}
use Rattle.rule_laws.proofs.AcceptedLaws.{checked_refused}
use Rattle.record.specs.Layout.{ledger_of}
use Rattle.record.specs.Spelling.{is_spelled}
use Rattle.record.proofs.Spelled.{long_spelled}
use Rattle.soundness.specs.Sound.{sound_words}
use Rattle.soundness.proofs.Laws.{words_spelled, sound_long, sound_formed, sound_ledger}
use Rattle.settling.proofs.SpareLaws.{spare_most}
use Rattle.settling.proofs.FeedLaws.{take_malformed, take_short, take_on, taken_refused, taken_kept}
use Rattle.settling.proofs.Life.{certificate_paid}
use Rattle.voter.specs.Voting.{Live, Onward}
use Rattle.intake.proofs.Taken.{stored}
use Rattle.node.specs.Stepping.{Leaves, as_found, as_fed}
use Rattle.node.proofs.StepLaws.{and_second, fed_refused, fed_done}
use Rattle.taking.specs.Taking.{certificate_in, take_leaves, TakeOf, Accepting, Keepable}
use Rattle.taking.proofs.Accepted.{table_fits, packet_taken, verdict_told, front_passes}

-- Whatever equals the definition is allowed.
take_of : {ws out packet : List ℕ} (f : Leaves) → f ≡ take_leaves ws out packet → TakeOf ws out packet f.answer f.words f.outbox
take_of f e =
    record { answered = ap (λ (x : Leaves). x.answer) e; words = ap (λ (x : Leaves). x.words) e; outbox = ap (λ (x : Leaves). x.outbox) e }

module _ (ws out packet : List ℕ) where
  leaves_spelled : is_spelled ws ≡ true → as_fed (take_certificate (ledger_of ws) (length out) packet) out ≡ take_leaves ws out packet
  unfolding take_leaves
  leaves_spelled e =
      sym (given_on (is_spelled ws) (as_found refusal.BadRecord ws out) (λ _. as_fed (take_certificate (ledger_of ws) (length out) packet) out) e)

  leaves_none : is_spelled ws ≡ false → as_found refusal.BadRecord ws out ≡ take_leaves ws out packet
  unfolding take_leaves
  leaves_none e =
      sym (given_off (is_spelled ws) (as_found refusal.BadRecord ws out) (λ _. as_fed (take_certificate (ledger_of ws) (length out) packet) out) e)

  refused_by_lem : (r : Refusal) → is_spelled ws ≡ true → take_certificate (ledger_of ws) (length out) packet ≡ refused_with (ledger_of ws) r
      → TakeOf ws out packet (Err r) ws out
  refused_by_lem r e is =
      take_of (as_found r ws out) (sym (fed_refused ws out r e) ∙ ap (λ (f : Fed). as_fed f out) (sym is) ∙ leaves_spelled e)

  -- 17.
  pub take_unsound : sound_words ws ≡ false → TakeOf ws out packet (Err refusal.BadRecord) ws out
  unfolding sound_words
  take_unsound e =
      by_test (is_spelled ws)
      (λ t. refused_by_lem refusal.BadRecord t (take_malformed (ledger_of ws) packet (length out) (and_second (is_spelled ws) (well_formed (ledger_of ws)) t e)))
      (λ t. take_of (as_found refusal.BadRecord ws out) (leaves_none t))

  module _ (s : sound_words ws ≡ true) where
    -- 9.
    pub take_cramped : length out < outbox_words → TakeOf ws out packet (Err refusal.NoRoom) ws out
    take_cramped h = refused_by_lem refusal.NoRoom (words_spelled ws s) (take_short (ledger_of ws) packet (length out) (sound_formed ws s) h)

    module _ (room : outbox_words ≤ length out) where
      packet_is : take_certificate (ledger_of ws) (length out) packet ≡ take_packet (ledger_of ws) packet
      packet_is = take_on (ledger_of ws) packet (length out) (sound_formed ws s) room

      -- The checker's refusals.
      pub take_bad : (r : Refusal) → check_certificate (table_of (ledger_of ws)) packet ≡ Err r → TakeOf ws out packet (Err r) ws out
      take_bad r e = refused_by_lem r (words_spelled ws s) (packet_is ∙ checked_refused (ledger_of ws) packet r (table_fits ws s) e)

      module _ (told : Accepted) (k : check_certificate (table_of (ledger_of ws)) packet ≡ Ok told) where
        accepting : Accepting ws packet told
        accepting = record { sound = s; checked = k }

        -- 7 and 8.
        pub take_kept : (r : Refusal) → kept_verdict (certificates_at (ledger_of ws) told.slot.0) told.kind told.block ≡ Err r
            → TakeOf ws out packet (Err r) ws out
        take_kept r e =
            refused_by_lem r (words_spelled ws s)
            (packet_is ∙ packet_taken ws packet told accepting
            ∙ taken_refused (ledger_of ws) (certificate_in packet) r (sym (verdict_told ws packet told accepting) ∙ e))

        -- Done.
        pub take_done : {ws' left : List ℕ} {n : ℕ} → kept_verdict (certificates_at (ledger_of ws) told.slot.0) told.kind told.block ≡ Ok tt
            → Words ws' → length left ≡ length out → Onward ws out 0 ws' left n (run (state_of (keep_certificate (ledger_of ws) (certificate_in packet)) []))
            → TakeOf ws out packet (Ok n) ws' left
        take_done {ws' = ws'} {left = left} {n = n} e w b o =
            take_of (record { answer = Ok n; words = ws'; outbox = left })
            (fed_done (run (state_of (keep_certificate (ledger_of ws) (certificate_in packet)) [])) (long_spelled ws' w o.live.long) b o
            ∙ ap (λ (f : Fed). as_fed f out)
            (sym (packet_is ∙ packet_taken ws packet told accepting
            ∙ taken_kept (ledger_of ws) (certificate_in packet) (sym (verdict_told ws packet told accepting) ∙ e)))
            ∙ leaves_spelled (words_spelled ws s))

-- ---- a certificate is kept, and the call goes on

module _ {ws out packet : List ℕ} {told : Accepted} (k : Keepable ws out packet told) where
  begin : Live ws out 0
  begin =
      record {
        long = sound_long ws k.accepting.sound;
        room = k.room;
        sound = sound_ledger ws k.accepting.sound;
        budget = omega (arith, spare_most (ledger_of ws));
      }

  -- Nothing is told before the rules run.
  pub certificate_stored : (ws' : List ℕ) → length ws' ≡ length ws → ledger_of ws' ≡ keep_certificate (ledger_of ws) (certificate_in packet)
      → Onward ws out 0 ws' out 0 (state_of (keep_certificate (ledger_of ws) (certificate_in packet)) [])
  certificate_stored ws' long is =
      stored ws' begin long is
      (certificate_paid (ledger_of ws) begin.sound (certificate_in packet) (front_passes ws packet told k.accepting k.fine)) refl
