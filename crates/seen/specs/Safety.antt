-- DEMAND 3 over seen lives, once for every way to call. A packet is accepted where a check's number is 0; slot, block and kind are those of its five
-- values, as the paper numbers them.
use Rattle.std.specs.Prelude.{◌≡◌, List, [], ◌∷◌, ℕ, length}
use Rattle.rulebook.specs.PaperNumbers.{kind_in}
use Rattle.rulebook.specs.Checker.{check_certificate, check_proof}
use Rattle.safety.specs.Slot.{Test}
use Rattle.safety.specs.Ring.{GenuinePacket, Agrees}
use Rattle.answers.specs.Face.{Checked}
use Rattle.seen.specs.Ring.{Lives, told_ballot, Ring, FedRing}

module _ (stakes : List ℕ) (honest : Test) (lives : Lives) where
  -- Once a proof for a block in a slot is accepted, no certificate that is accepted in that slot is of kind 4, or of kind 1, 2 or 3 for another block.
  abbrev pub NoRival : Type 0
  NoRival =
      (proof packet : List ℕ) (kind slot block signers weight missing kind' block' signers' weight' missing' : ℕ)
      → GenuinePacket (length stakes) honest (told_ballot lives) proof → GenuinePacket (length stakes) honest (told_ballot lives) packet
      → Checked (length stakes) (check_proof stakes proof) 0 (kind ∷ slot ∷ block ∷ signers ∷ weight ∷ []) missing
      → Checked (length stakes) (check_certificate stakes packet) 0 (kind' ∷ slot ∷ block' ∷ signers' ∷ weight' ∷ []) missing'
      → Agrees (kind_in (length stakes) kind') block' block

  -- Two proofs that are accepted in one slot name one block.
  abbrev pub OneBlock : Type 0
  OneBlock =
      (proof rival : List ℕ) (kind slot block signers weight missing kind' block' signers' weight' missing' : ℕ)
      → GenuinePacket (length stakes) honest (told_ballot lives) proof → GenuinePacket (length stakes) honest (told_ballot lives) rival
      → Checked (length stakes) (check_proof stakes proof) 0 (kind ∷ slot ∷ block ∷ signers ∷ weight ∷ []) missing
      → Checked (length stakes) (check_proof stakes rival) 0 (kind' ∷ slot ∷ block' ∷ signers' ∷ weight' ∷ []) missing'
      → block' ≡ block

-- SAFETY.
abbrev pub Safe : Type 0
Safe = (stakes : List ℕ) (genesis : ℕ → ℕ) (honest : Test) (lives : Lives) → Ring stakes genesis honest lives → NoRival stakes honest lives

-- ONE FINAL BLOCK a slot.
abbrev pub ProofsAgree : Type 0
ProofsAgree = (stakes : List ℕ) (genesis : ℕ → ℕ) (honest : Test) (lives : Lives) → Ring stakes genesis honest lives → OneBlock stakes honest lives

-- A host can check what arrives in place of what is counted and kept.
abbrev pub MailIsEnough : Type 0
MailIsEnough = (stakes : List ℕ) (genesis : ℕ → ℕ) (honest : Test) (lives : Lives) → FedRing stakes genesis honest lives → Ring stakes genesis honest lives

-- So both promises hold where the host checks what arrives.
abbrev pub FedSafe : Type 0
FedSafe =
    (stakes : List ℕ) (genesis : ℕ → ℕ) (honest : Test) (lives : Lives) → FedRing stakes genesis honest lives → NoRival stakes honest lives × OneBlock stakes honest lives
