-- THE INQUEST over words: what the records that firms hand in show, and packets that a check accepts, where its number is 0; slot, block and kind are those
-- of its five values. Each promise is a statement that proofs/ proves under the same name in small letters.
use Rattle.std.specs.Prelude.{◌≡◌, Bool, not, List, [], ◌∷◌, ℕ, ◌*◌, ◌≤◌, T, length}
use Rattle.rulebook.specs.PaperNumbers.{kind_in}
use Rattle.rulebook.specs.Weights.{weight, total_to}
use Rattle.rulebook.specs.Ledger.{Ledger}
use Rattle.rulebook.specs.Checker.{check_certificate, check_proof}
use Rattle.record.specs.Layout.{ledger_of}
use Rattle.soundness.specs.Sound.{sound_words}
use Rattle.safety.specs.Slot.{Test}
use Rattle.safety.specs.Ring.{GenuinePacket, Agrees}
use Rattle.safety.specs.Watchers.{HoldsGenuine}
use Rattle.chain.specs.Chain.{Chained}
use Rattle.inquest.specs.Inquest.{Clear, SelfVouched, Vouched, SameParents, keeps_in, blameless}
use Rattle.standing.specs.Asked.{stands_on}
use Rattle.answers.specs.Face.{Checked, LinesRead}
use Rattle.seen.specs.Seen.{Seen, NodeSeen, Alive}
use Rattle.seen.specs.Ring.{Lives, told_ballot}

-- The words that each firm hands in: none where it hands in nothing.
abbrev pub Records : Type 0
Records = ℕ → List ℕ

-- The ledgers that they mean.
abbrev pub ledgers : Records → ℕ → Ledger
ledgers records n = ledger_of (records n)

-- Who handed in a record: words that 17 lets pass.
abbrev pub handed_in : Records → Test
handed_in records n = sound_words (records n)

-- FIRM n IS BLAMELESS: it handed in a record of its own, with this table; its own votes stand; and no packet in question and no record that another firm
-- handed in counts it for a vote that its own record lacks.
abbrev pub blameless_by : List ℕ → Records → List (List ℕ) → ℕ → Bool
blameless_by stakes records packets n = blameless stakes (ledgers records) (handed_in records) packets n

-- The stake of all firms that are not: they are named.
abbrev pub named_stake : List ℕ → Records → List (List ℕ) → ℕ
named_stake stakes records packets = weight stakes (length stakes) (λ n. not (blameless_by stakes records packets n))

-- ---- who is named

-- THE NAMED HOLD A FIFTH: a finality proof and a certificate of its slot are accepted and contradict one another. Then the firms that are not blameless
-- hold at least one fifth of the stake, whatever words were handed in, and whoever ran what.
abbrev pub NamedHoldAFifth : Type 0
NamedHoldAFifth =
    (stakes : List ℕ) (records : Records) (proof packet : List ℕ) (kind slot block signers stake missing kind' block' signers' stake' missing' : ℕ)
    → Checked (length stakes) (check_proof stakes proof) 0 (kind ∷ slot ∷ block ∷ signers ∷ stake ∷ []) missing
    → Checked (length stakes) (check_certificate stakes packet) 0 (kind' ∷ slot ∷ block' ∷ signers' ∷ stake' ∷ []) missing'
    → ¬ Agrees (kind_in (length stakes) kind') block' block
    → total_to stakes (length stakes) ≤ 5 * named_stake stakes records (proof ∷ packet ∷ [])

-- The same of two accepted proofs of one slot that name two blocks.
abbrev pub NamedOfProofsHoldAFifth : Type 0
NamedOfProofsHoldAFifth =
    (stakes : List ℕ) (records : Records) (proof rival : List ℕ) (kind slot block signers stake missing kind' block' signers' stake' missing' : ℕ)
    → Checked (length stakes) (check_proof stakes proof) 0 (kind ∷ slot ∷ block ∷ signers ∷ stake ∷ []) missing
    → Checked (length stakes) (check_proof stakes rival) 0 (kind' ∷ slot ∷ block' ∷ signers' ∷ stake' ∷ []) missing'
    → ¬ (block' ≡ block)
    → total_to stakes (length stakes) ≤ 5 * named_stake stakes records (proof ∷ rival ∷ [])

-- And of two accepted proofs of any slots that are not on one chain through the blocks that the records keep: whatever set of firms is clear, each record
-- agreeing with itself too and no block kept with two parents, the others hold at least one fifth.
abbrev pub OffTheChainAFifth : Type 0
OffTheChainAFifth =
    (stakes : List ℕ) (records : Records) (cleared : Test) → Clear stakes (ledgers records) cleared → SelfVouched stakes (ledgers records) cleared
    → SameParents stakes (ledgers records) cleared
    → (proof rival : List ℕ) (kind slot block signers stake missing kind' slot' block' signers' stake' missing' : ℕ)
    → Vouched stakes (ledgers records) cleared proof → Vouched stakes (ledgers records) cleared rival
    → Checked (length stakes) (check_proof stakes proof) 0 (kind ∷ slot ∷ block ∷ signers ∷ stake ∷ []) missing
    → Checked (length stakes) (check_proof stakes rival) 0 (kind' ∷ slot' ∷ block' ∷ signers' ∷ stake' ∷ []) missing'
    → ¬ Chained cleared (keeps_in stakes (ledgers records) cleared) slot block slot' block'
    → total_to stakes (length stakes) ≤ 5 * weight stakes (length stakes) (λ n. not (cleared n))

-- ---- who never is

-- OWN VOTES STAND at every moment of a life, a node's or a watcher's, whatever arrived: asked for those that do not, the library lists none.
abbrev pub OwnVotesStand : Type 0
OwnVotesStand =
    (stakes : List ℕ) (genesis : ℕ) (v : Seen) → Alive stakes genesis v
    → (list : List ℕ) (number beside : ℕ) (left : List ℕ) → LinesRead (stands_on v.words (length list)) list number beside left
    → (number ≡ 0) × (beside ≡ 0) × (left ≡ list)

-- THE EVIDENCE IS GENUINE. Nothing is asked of stake. Each honest firm lived with this table under its own number and hands in its words; and the records
-- that were handed in, by whomever, count an honest firm's vote only where its outbox told it: signatures are the firms' affair.
pub record Evidence (stakes : List ℕ) (genesis : ℕ → ℕ) (honest : Test) (lives : Lives) (records : Records) : Type 0 where
  pub lived : (n : ℕ) → T (honest n) → NodeSeen stakes n (genesis n) (lives n)
  pub own : (n : ℕ) → T (honest n) → records n ≡ (lives n).words
  pub genuine : (n : ℕ) → T (handed_in records n) → HoldsGenuine honest (told_ballot lives) (ledgers records n)

-- AN HONEST FIRM IS NEVER NAMED, however much stake the others hold, where the packets too count it only for votes that its outbox told.
abbrev pub HonestNeverNamed : Type 0
HonestNeverNamed =
    (stakes : List ℕ) (genesis : ℕ → ℕ) (honest : Test) (lives : Lives) (records : Records) → Evidence stakes genesis honest lives records
    → (proof packet : List ℕ) → GenuinePacket (length stakes) honest (told_ballot lives) proof → GenuinePacket (length stakes) honest (told_ballot lives) packet
    → (n : ℕ) → T (honest n) → T (blameless_by stakes records (proof ∷ packet ∷ []) n)
