-- What is shown of a certificate from another firm, defined for any words, slot and place.
use Rattle.std.specs.Prelude.{◌&&◌, List, ℕ, ◌<◌, length, Option, Some, None}
use Rattle.rulebook.specs.declared.Accepted.{Accepted}
use Rattle.rulebook.specs.Tools.{whenever}
use Rattle.rulebook.specs.Weights.{slot_ok}
use Rattle.rulebook.specs.Packets.{count_of}
use Rattle.rulebook.specs.Ledger.{Ledger, table_of, most_certificates, kept_at, is_kept}
use Rattle.rulebook.specs.Pool.{place_kind}
use Rattle.rulebook.specs.Checker.{signed, signed_weight}
use Rattle.rulebook.specs.WellFormed.{kept_in}
use Rattle.record.specs.Layout.{ledger_of}
use Rattle.kept_audit.specs.Judging.{Judging}
use Rattle.soundness.specs.Sound.{sound_words}

-- What the checker tells of the certificate that place i of slot s keeps: the place's kind, slot, block, signer count and weight.
unfoldable pub told_of : Ledger → ℕ → ℕ → Accepted
told_of l s i =
    let c = kept_in s (kept_at l s i) in
    record {
      kind = place_kind i;
      slot = record { 0 = s };
      block = c.block;
      signers = count_of (signed c) (length (table_of l));
      weight = record { 0 = signed_weight (table_of l) c };
    }

-- The certificate that place i of slot s keeps; none is where the words are no sound record, or the slot is not one of 1 to 16.
unfoldable pub kept_shown : List ℕ → ℕ → ℕ → Option Accepted
kept_shown ws s i =
    whenever (slot_ok s && sound_words ws)
    (λ _. whenever (is_kept (kept_at (ledger_of ws) s i)) (λ _. Some (told_of (ledger_of ws) s i)) None)
    None

-- The record's certificates can be judged, and i is one of the slot's places for them.
pub record Telling (ws : List ℕ) (s i : ℕ) : Type 0 where
  pub judging : Judging ws s
  pub place : i < most_certificates
