-- ONE CHAIN FOR ALL WHO LOOK ON, honest nodes at any of their moments and watchers in good faith (`LooksOn`): what they tell, what is read off their words and what they
-- write lies on the one chain, over what is seen of lives. Each promise is a statement that proofs/ proves under the same name in small letters.
use Rattle.std.specs.Prelude.{◌≡◌, List, [], ◌∷◌, ℕ, ◌<◌, ◌^◌, T, length}
use Rattle.rulebook.specs.Rules.{record_of}
use Rattle.rulebook.specs.Checker.{check_proof}
use Rattle.readers.specs.Asked.{final_on, marks_on}
use Rattle.writers.specs.Writing.{proof_on}
use Rattle.answers.specs.Face.{Wrote, Checked, FinalRead, MarksRead}
use Rattle.safety.specs.Slot.{Test}
use Rattle.safety.specs.Ballots.{among}
use Rattle.safety.specs.Ring.{GenuinePacket}
use Rattle.seen.specs.Seen.{Seen}
use Rattle.seen.specs.Ring.{Lives, told_ballot, Ring}
use Rattle.seen.specs.Chain.{OneParent, OnOneChain}
use Rattle.spreading.specs.Spreading.{LooksOn}

module _ (stakes : List ℕ) (genesis : ℕ → ℕ) (honest : Test) (lives : Lives) where
  -- Block b of slot s is SETTLED for somebody: a check answers 0 to a genuine proof for it; or at one who looks on (6, s, b) was told, qr_final_block answers b, or
  -- qr_write_proof answers 0 for it. Blocks are 64-bit numbers.
  pub data SettledFor (s b : ℕ) : Type 0 where
    proved : (proof : List ℕ) (kind signers weight missing : ℕ) → GenuinePacket (length stakes) honest (told_ballot lives) proof
        → Checked (length stakes) (check_proof stakes proof) 0 (kind ∷ s ∷ b ∷ signers ∷ weight ∷ []) missing → SettledFor s b
    told : (w : Seen) → LooksOn stakes genesis honest lives w → T (among w.told (record_of 6 s b)) → SettledFor s b
    read : (w : Seen) → LooksOn stakes genesis honest lives w → (number : ℕ) → FinalRead (final_on w.words s) number b → ¬ (b ≡ 0) → SettledFor s b
    wrote : (w : Seen) → LooksOn stakes genesis honest lives w → (buffer after : List ℕ) (written : ℕ) → b < 2 ^ 64
        → Wrote (proof_on w.words (length buffer) s b) buffer 0 written after → SettledFor s b

-- ---- the promises

-- ONE CHAIN: of any two blocks that are settled for anybody one is the other or its ancestor, through blocks that honest nodes' words keep.
abbrev pub OnlookersChained : Type 0
OnlookersChained =
    (stakes : List ℕ) (genesis : ℕ → ℕ) (honest : Test) (lives : Lives) → Ring stakes genesis honest lives → OneParent honest lives
    → (s b t c : ℕ) → SettledFor stakes genesis honest lives s b → SettledFor stakes genesis honest lives t c → OnOneChain honest lives s b t c

-- One slot has one block that is settled for anybody.
abbrev pub OnlookersAgree : Type 0
OnlookersAgree =
    (stakes : List ℕ) (genesis : ℕ → ℕ) (honest : Test) (lives : Lives) → Ring stakes genesis honest lives → OneParent honest lives
    → (s b c : ℕ) → SettledFor stakes genesis honest lives s b → SettledFor stakes genesis honest lives s c → b ≡ c

-- No alarm: no (8, s, _) was told, and the mark of another final block that qr_slot_marks answers is 0.
pub record NoAlarm (w : Seen) : Type 0 where
  pub told : (s c : ℕ) → ¬ T (among w.told (record_of 8 s c))
  pub marks : (s number timed_out another : ℕ) → MarksRead (marks_on w.words s) number (timed_out ∷ another ∷ []) → another ≡ 0

-- At one who looks on it never rings.
abbrev pub OnlookersNoAlarm : Type 0
OnlookersNoAlarm =
    (stakes : List ℕ) (genesis : ℕ → ℕ) (honest : Test) (lives : Lives) → Ring stakes genesis honest lives → OneParent honest lives
    → (w : Seen) → LooksOn stakes genesis honest lives w → NoAlarm w
