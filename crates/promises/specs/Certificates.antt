-- Certificates from other firms, at the face: the checker's refusals, and 17 for what a record may not keep.
use Rattle.std.specs.Prelude.{◌≡◌, true, List, ℕ, ◌≤◌, ◌<◌, length, Ok}
use Rattle.rulebook.specs.Certificates.{Certificate}
use Rattle.rulebook.specs.Weights.{slot_ok}
use Rattle.rulebook.specs.Ledger.{Ledger, table_of, kept_at, is_kept}
use Rattle.rulebook.specs.Pool.{place_kind}
use Rattle.rulebook.specs.Checker.{judge, check_certificate}
use Rattle.rulebook.specs.Writers.{masked_by}
use Rattle.rulebook.specs.WellFormed.{outbox_words}
use Rattle.record.specs.Layout.{ledger_of}
use Rattle.soundness.specs.Sound.{sound_words}
use Rattle.answers.specs.Face.{Taken, Checked}
use Rattle.promises.specs.Cards.{RefusedEverywhere}

-- "after a full check, with the checker's refusals": what the checker refuses is refused with its number; what it accepts is answered 0, 7 or 8.
pub record AsChecked (number checked : ℕ) : Type 0 where
  pub refused : ¬ (checked ≡ 0) → number ≡ checked
  pub accepted : checked ≡ 0 → ¬ (number ≡ 0) → ¬ (number ≡ 7) → number ≡ 8

-- qr_take beside qr_check_certificate with the record's own stakes, where neither 17 nor 9 is due.
abbrev pub FaceTakeChecked : Type 0
FaceTakeChecked =
    (ws out packet : List ℕ) (number made : ℕ) (ws' left : List ℕ) (checked : ℕ) (values : List ℕ) (missing : ℕ) → sound_words ws ≡ true
    → outbox_words ≤ length out → Taken ws out packet number made ws' left
    → Checked (length (table_of (ledger_of ws))) (check_certificate (table_of (ledger_of ws)) packet) checked values missing → AsChecked number checked

-- ---- "A record whose kept certificate the checker refuses, or repeats another, is 17."

-- What place i of slot s keeps, as a packet spells it: the place tells the kind.
abbrev pub certificate_in : Ledger → ℕ → ℕ → Certificate
certificate_in l s i = masked_by l (place_kind i) s (kept_at l s i).block (kept_at l s i)

-- A kept certificate that the checker's tests refuse with the record's stakes, or one that repeats kind, slot and block of an earlier place.
pub data BadlyKept (l : Ledger) : Type 0 where
  refused_one : (s i : ℕ) → slot_ok s ≡ true → is_kept (kept_at l s i) ≡ true → ¬ (judge (table_of l) (certificate_in l s i) ≡ Ok tt) → BadlyKept l
  repeated : (s i j : ℕ) → slot_ok s ≡ true → i < j → is_kept (kept_at l s j) ≡ true → place_kind i ≡ place_kind j
      → (kept_at l s i).block ≡ (kept_at l s j).block → BadlyKept l

abbrev pub BadlyKeptRefused : Type 0
BadlyKeptRefused = (ws : List ℕ) → BadlyKept (ledger_of ws) → RefusedEverywhere ws
