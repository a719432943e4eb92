-- A HOST THAT ASKS qr_may_announce, over what is seen of lives: what it is told to announce is taken; where it follows, the four places never run out for a
-- block that has the weights; and every block that progress asks for is announced. Each promise is a statement that proofs/ proves under the same name in
-- small letters.
use Rattle.std.specs.Prelude.{◌≡◌, List, ◌⊎◌, ℕ, ◌≤◌, T, length}
use Rattle.rulebook.specs.Weights.{last_slot}
use Rattle.rulebook.specs.Ledger.{fresh, keeps_block}
use Rattle.rulebook.specs.Taking.{of_input}
use Rattle.rulebook.specs.WellFormed.{outbox_words}
use Rattle.inputs.specs.Inputs.{block_input}
use Rattle.announcing.specs.Asked.{block_of, announced_on}
use Rattle.answers.specs.Face.{AnnounceRead, Stepped}
use Rattle.safety.specs.Slot.{Test, notar}
use Rattle.mail.specs.Policy.{may_announce, allowed, by_policy}
use Rattle.seen.specs.Seen.{Seen, ledger_in, NodeSeen}
use Rattle.seen.specs.Ring.{Lives, told_ballot, counted_ballot, Ring}
use Rattle.seen.specs.Chain.{OneParent}
use Rattle.seen.specs.Fed.{Asked}

-- qr_may_announce, asked on a life's words about block b of slot s with the parent (p, x), answered this number with this value beside it.
abbrev pub AsksMay : Seen → (s b p x number may : ℕ) → Type 0
AsksMay v s b p x number may = AnnounceRead (announced_on v.words s (block_of b p x)) number may

-- WHERE IT ANSWERS 1 the policy allows the block on these words, so that whoever announces blocks only there lives by the policy,
abbrev pub AskedIsAllowed : Type 0
AskedIsAllowed =
    (v : Seen) (s b p x number may : ℕ) → AsksMay v s b p x number may → may ≡ 1 → T (allowed (ledger_in v) (of_input (block_input s b p x)))

-- and qr_block, lent an outbox with room, takes it there.
abbrev pub AskedIsTaken : Type 0
AskedIsTaken =
    (v : Seen) (s b p x number may : ℕ) → AsksMay v s b p x number may → may ≡ 1 → (lent : List ℕ) (answer made : ℕ) (words left : List ℕ)
    → outbox_words ≤ length lent → Stepped v.words lent (block_input s b p x) answer made words left → answer ≡ 0

-- NEVER 8 but for a number with another parent: in a life by the policy, of a block that comes first in its slot or has the weights.
abbrev pub AskedNeverEight : Type 0
AskedNeverEight =
    (stakes : List ℕ) (own genesis : ℕ) (v : Seen) → NodeSeen stakes own genesis v → T (by_policy (fresh stakes own genesis) v.came)
    → (s b p x : ℕ) → T (may_announce (ledger_in v) s b) → ((q y : ℕ) → T (keeps_block (ledger_in v) s b q y) → (p ≡ q) × (x ≡ y))
    → (number may : ℕ) → AsksMay v s b p x number may → ¬ (number ≡ 8)

-- EVERY BLOCK THAT PROGRESS ASKS FOR is announced: once the honest notar votes for it are counted in an honest node's words, that node's host, which lived
-- by the policy, is answered 1, or 7 where the block is kept already.
abbrev pub NeededIsAnnounced : Type 0
NeededIsAnnounced =
    (stakes : List ℕ) (genesis : ℕ → ℕ) (honest : Test) (lives : Lives) → Ring stakes genesis honest lives → OneParent honest lives
    → (n m s b p x : ℕ) → T (honest m) → s ≤ last_slot → Asked stakes honest lives n s b p x
    → T (by_policy (fresh stakes m (genesis m)) (lives m).came)
    → ((k : ℕ) → T (honest k) → T (told_ballot lives k s (notar b)) → T (counted_ballot lives m k s (notar b)))
    → (number may : ℕ) → AsksMay (lives m) s b p x number may → (may ≡ 1) ⊎ (number ≡ 7)
