-- The writers on a node's words and lent bytes: their answers and all memory afterwards, for every input.
use Rattle.std.specs.Prelude.{◌≡◌, true, false, List, [], ℕ, ◌≤◌, length, Err}
use Rattle.rulebook.specs.declared.CertificateKind.{CertificateKind}
use Rattle.rulebook.specs.declared.Refusal.TheVariants as refusal
use Rattle.rulebook.specs.Tools.{whenever}
use Rattle.rulebook.specs.Weights.{slot_ok}
use Rattle.rulebook.specs.Certificates.{Certificate}
use Rattle.rulebook.specs.Ledger.{Ledger, certificates_at}
use Rattle.rulebook.specs.Rules.{is_final}
use Rattle.rulebook.specs.Packets.{certificate_bytes}
use Rattle.rulebook.specs.Checker.{is_other_kind}
use Rattle.rulebook.specs.PaperNumbers.{kind_in}
use Rattle.rulebook.specs.Writers.{Wrote, kept_for, masked_by, proof_room, write_certificate, write_proof}
use Rattle.numbers.specs.Written.{Room}
use Rattle.record.specs.Layout.{ledger_of}
use Rattle.soundness.specs.Sound.{sound_words}

-- 17, and nothing is written.
unfoldable pub unsound : Wrote
unsound = record { answer = Err refusal.BadRecord; bytes = [] }

-- The kind that a number stands for in the table of a node's words.
abbrev pub kind_on : List ℕ → ℕ → CertificateKind
kind_on ws kind = kind_in (ledger_of ws).count kind

-- "Writers: 17, 9, 4, 3, 5, 18, those that apply": words, a buffer of so many bytes, and what is asked for, the kind by its number.
unfoldable pub certificate_on : List ℕ → ℕ → ℕ → ℕ → ℕ → Wrote
certificate_on ws room kind s b = whenever (sound_words ws) (λ _. write_certificate (ledger_of ws) room (kind_on ws kind) s b) unsound

unfoldable pub proof_on : List ℕ → ℕ → ℕ → ℕ → Wrote
proof_on ws room s b = whenever (sound_words ws) (λ _. write_proof (ledger_of ws) room s b) unsound

-- The certificate of a kind for slot s and block b with the kept masks that are taken for it.
abbrev pub kept_certificate : Ledger → CertificateKind → ℕ → ℕ → Certificate
kept_certificate l k s b = masked_by l k s b (kept_for k b (certificates_at l s))

-- The words are sound, the kind is one of the five, the slot is one of 1 to 16, and the buffer has room for a certificate from a place
-- on.
pub record Laying (ws buffer : List ℕ) (at : ℕ) (k : CertificateKind) (s : ℕ) (c : Certificate) : Type 0 where
  pub sound : sound_words ws ≡ true
  pub kind : is_other_kind k ≡ false
  pub slot : slot_ok s ≡ true
  pub room : Room buffer at (certificate_bytes c)

-- The words are sound, the slot is one of 1 to 16, the block is final there, and the buffer has room for a proof.
pub record Proving (ws buffer : List ℕ) (s b : ℕ) : Type 0 where
  pub sound : sound_words ws ≡ true
  pub slot : slot_ok s ≡ true
  pub final : is_final (ledger_of ws) s b ≡ true
  pub room : proof_room (ledger_of ws).count ≤ length buffer
