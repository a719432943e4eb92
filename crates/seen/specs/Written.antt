-- WHAT IS WRITTEN, over seen lives: the checks accept it, it is genuine, and every honest node takes it. Blocks are 64-bit numbers.
use Rattle.std.specs.Prelude.{◌≡◌, Bool, List, [], ◌∷◌, ◌⊎◌, ℕ, ◌≤◌, ◌<◌, ◌^◌, T, length, take}
use Rattle.rulebook.specs.Checker.{check_certificate, check_proof}
use Rattle.rulebook.specs.WellFormed.{outbox_words}
use Rattle.writers.specs.Writing.{certificate_on, proof_on}
use Rattle.safety.specs.Slot.{Test, Ballot}
use Rattle.safety.specs.Ring.{GenuinePacket}
use Rattle.answers.specs.Face.{Wrote, Checked, Taken}
use Rattle.seen.specs.Seen.{Seen, Alive}
use Rattle.seen.specs.Ring.{Lives, told_ballot, Ring, Moment}

-- A check's answer accepts, and names this kind, slot and block.
pub record NamedAs (number : ℕ) (values : List ℕ) (kind slot block : ℕ) : Type 0 where
  pub accepts : number ≡ 0
  pub signers : ℕ
  pub weight : ℕ
  pub names : values ≡ kind ∷ slot ∷ block ∷ signers ∷ weight ∷ []

module _ (stakes words : List ℕ) where
  -- What a certificate writer, answering 0, wrote to the buffer's front on these words, from stored votes or from kept masks, the check accepts with
  -- this table, and names the kind, slot and block that were asked for.
  abbrev pub CertificateAccepted : Type 0
  CertificateAccepted =
      (buffer after values : List ℕ) (kind slot block written number missing : ℕ) → block < 2 ^ 64
      → Wrote (certificate_on words (length buffer) kind slot block) buffer 0 written after
      → Checked (length stakes) (check_certificate stakes (take written after)) number values missing → NamedAs number values kind slot block

  -- Likewise a proof writer.
  abbrev pub ProofAccepted : Type 0
  ProofAccepted =
      (buffer after values : List ℕ) (slot block written number missing : ℕ) → block < 2 ^ 64
      → Wrote (proof_on words (length buffer) slot block) buffer 0 written after
      → Checked (length stakes) (check_proof stakes (take written after)) number values missing → (kind : ℕ) × NamedAs number values kind slot block

-- At any moment of a node's life, or a watcher's; nothing is asked of others.
abbrev pub WrittenAccepted : Type 0
WrittenAccepted = (stakes : List ℕ) (genesis : ℕ) (v : Seen) → Alive stakes genesis v → CertificateAccepted stakes v.words × ProofAccepted stakes v.words

module _ (stakes : List ℕ) (honest : Test) (cast : ℕ → ℕ → Ballot → Bool) (words : List ℕ) where
  -- What a certificate writer, answering 0, wrote to the buffer's front on these words is genuine by what was cast.
  abbrev pub CertificateGenuine : Type 0
  CertificateGenuine =
      (buffer after : List ℕ) (kind slot block written : ℕ) → block < 2 ^ 64 → Wrote (certificate_on words (length buffer) kind slot block) buffer 0 written after
      → GenuinePacket (length stakes) honest cast (take written after)

  -- Likewise a proof writer.
  abbrev pub ProofGenuine : Type 0
  ProofGenuine =
      (buffer after : List ℕ) (slot block written : ℕ) → block < 2 ^ 64 → Wrote (proof_on words (length buffer) slot block) buffer 0 written after
      → GenuinePacket (length stakes) honest cast (take written after)

-- What honest nodes write at any moment is genuine, so that the promises hold of it with no premise on packets.
abbrev pub WrittenGenuine : Type 0
WrittenGenuine =
    (stakes : List ℕ) (genesis : ℕ → ℕ) (honest : Test) (lives : Lives) → Ring stakes genesis honest lives
    → (n : ℕ) (v : Seen) → Moment stakes genesis honest lives n v
    → CertificateGenuine stakes honest (told_ballot lives) v.words × ProofGenuine stakes honest (told_ballot lives) v.words

-- A genuine packet is never answered 8, whatever outbox is lent: what is genuine always finds its place.
abbrev pub NeverEight : Type 0
NeverEight =
    (stakes : List ℕ) (genesis : ℕ → ℕ) (honest : Test) (lives : Lives) → Ring stakes genesis honest lives
    → (n : ℕ) (v : Seen) → Moment stakes genesis honest lives n v
    → (lent packet : List ℕ) (number made : ℕ) (words left : List ℕ) → GenuinePacket (length stakes) honest (told_ballot lives) packet
    → Taken v.words lent packet number made words left → ¬ (number ≡ 8)

-- "A lying firm can show two members different votes, so members must accept each other's certificates": what one honest node's certificate writer,
-- answering 0, wrote at any moment, every honest node answers with 0 or 7 at any moment of its own, itself among them, where the outbox has room.
abbrev pub WrittenTaken : Type 0
WrittenTaken =
    (stakes : List ℕ) (genesis : ℕ → ℕ) (honest : Test) (lives : Lives) → Ring stakes genesis honest lives
    → (n m : ℕ) (v w : Seen) → Moment stakes genesis honest lives n v → Moment stakes genesis honest lives m w
    → (buffer after : List ℕ) (kind slot block written : ℕ) → block < 2 ^ 64
    → Wrote (certificate_on v.words (length buffer) kind slot block) buffer 0 written after
    → (lent : List ℕ) (number made : ℕ) (words left : List ℕ) → outbox_words ≤ length lent
    → Taken w.words lent (take written after) number made words left → (number ≡ 0) ⊎ (number ≡ 7)
