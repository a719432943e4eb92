-- What taking a certificate packet does with a lent record and a lent outbox, word for word.
use Rattle.std.specs.Prelude.{◌≡◌, true, List, ℕ, ◌≤◌, length, Result, Ok}
use Rattle.rulebook.specs.declared.Accepted.{Accepted}
use Rattle.rulebook.specs.declared.Refusal.TheVariants as refusal
use Rattle.rulebook.specs.Tools.{whenever}
use Rattle.rulebook.specs.Certificates.{Certificate, Found}
use Rattle.rulebook.specs.Certificates as found
use Rattle.rulebook.specs.Ledger.{table_of, certificates_at}
use Rattle.rulebook.specs.Packets.{certificate_at}
use Rattle.rulebook.specs.Checker.{check_certificate}
use Rattle.rulebook.specs.Taking.{kept_verdict}
use Rattle.rulebook.specs.WellFormed.{outbox_words, take_certificate}
use Rattle.record.specs.Layout.{ledger_of}
use Rattle.record.specs.Spelling.{is_spelled}
use Rattle.soundness.specs.Sound.{sound_words}
use Rattle.node.specs.Stepping.{Leaves, as_found, as_fed}
use Rattle.rulebook.specs.declared.Refusal.{Refusal}

-- 17 for words that spell no ledger; else the rule book's taking of a certificate packet on their ledger.
unfoldable pub take_leaves : List ℕ → List ℕ → List ℕ → Leaves
take_leaves ws out packet =
    whenever (is_spelled ws) (λ _. as_fed (take_certificate (ledger_of ws) (length out) packet) out) (as_found refusal.BadRecord ws out)

-- What taking a packet answers, and all memory afterwards.
pub record TakeOf (ws out packet : List ℕ) (r : Result ℕ Refusal) (ws' left : List ℕ) : Type 0 where
  pub answered : r ≡ (take_leaves ws out packet).answer
  pub words : ws' ≡ (take_leaves ws out packet).words
  pub outbox : left ≡ (take_leaves ws out packet).outbox

-- The certificate that was found, a blank one where there is none.
unfoldable pub found_in : Found → Certificate
found_in (found.Whole c next) = c
found_in found.Early = record { kind = 0; slot = 0; block = 0; maska = 0; maskb = 0 }
found_in found.Malformed = record { kind = 0; slot = 0; block = 0; maska = 0; maskb = 0 }

-- The certificate at the front of a packet.
unfoldable pub certificate_in : List ℕ → Certificate
certificate_in packet = found_in (certificate_at packet 0)

-- A sound record, and a packet that the checker accepts on its stakes.
pub record Accepting (ws packet : List ℕ) (told : Accepted) : Type 0 where
  pub sound : sound_words ws ≡ true
  pub checked : check_certificate (table_of (ledger_of ws)) packet ≡ Ok told

-- Likewise, with room for all records, and neither 7 nor 8 stands against it: it can be kept.
pub record Keepable (ws out packet : List ℕ) (told : Accepted) : Type 0 where
  pub accepting : Accepting ws packet told
  pub room : outbox_words ≤ length out
  pub fine : kept_verdict (certificates_at (ledger_of ws) told.slot.0) told.kind told.block ≡ Ok tt
