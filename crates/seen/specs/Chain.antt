-- #114, ONE CHAIN, over seen lives: "of any two blocks for which the checker accepts proofs, in slots 1 to 16 and at any honest nodes, one is the
-- other or its ancestor. And no honest node ever makes record (8, s, b)." What honest nodes keep stands in their words, what they make is what their
-- outboxes told.
use Rattle.std.specs.Prelude.{◌≡◌, Bool, not, List, [], ◌∷◌, ℕ, ◌≤◌, ◌<◌, ◌^◌, T, length}
use Rattle.rulebook.specs.declared.CertificateKind.TheVariants as certificate
use Rattle.rulebook.specs.Ledger.{none, row_at, keeps_block}
use Rattle.rulebook.specs.PaperNumbers.{kind_in}
use Rattle.rulebook.specs.Pool.{serves_as}
use Rattle.rulebook.specs.Rules.{record_of}
use Rattle.rulebook.specs.Checker.{check_certificate, check_proof}
use Rattle.readers.specs.Asked.{final_on}
use Rattle.writers.specs.Writing.{proof_on}
use Rattle.safety.specs.Slot.{Test}
use Rattle.safety.specs.Ballots.{among}
use Rattle.safety.specs.Ring.{announced_by, GenuinePacket}
use Rattle.safety.specs.Watchers.{HoldsGenuine, FedGenuine}
use Rattle.chain.specs.Chain.{Descends, Chained}
use Rattle.answers.specs.Face.{Wrote, Checked, FinalRead}
use Rattle.seen.specs.Seen.{Seen, ledger_in, WatcherSeen}
use Rattle.seen.specs.Ring.{Lives, told_ballot, Ring, FedRing, Moment}

-- Node n's words keep block b of slot s with the parent (p, x): what was kept at any moment is kept in them.
abbrev pub block_kept : Lives → ℕ → ℕ → ℕ → ℕ → ℕ → Bool
block_kept lives n s b p x = keeps_block (ledger_in (lives n)) s b p x

-- The final mark of slot s in those words.
abbrev pub final_mark : Lives → ℕ → ℕ → ℕ
final_mark lives n s = (row_at (ledger_in (lives n)) s).final

module _ (honest : Test) (lives : Lives) where
  -- ---- the premise

  -- THE PREMISE of one chain, besides that of the ring: "each block number having one slot and one parent everywhere". Everywhere is in the words of
  -- every honest node, for every block that they keep, whether or not the node votes for it. What is asked is one parent for a slot and a number.
  abbrev pub OneParent : Type 0
  OneParent = (n m s b p x q y : ℕ) → T (honest n) → T (honest m) → T (block_kept lives n s b p x) → T (block_kept lives m s b q y) → (p ≡ q) × (x ≡ y)

  -- The same as a host can check it, over what is announced to honest nodes.
  abbrev pub AnnouncedOnce : Type 0
  AnnouncedOnce =
      (n m s b p x q y : ℕ) → T (honest n) → T (honest m) → T (announced_by (lives n).came s b p x) → T (announced_by (lives m).came s b q y) → (p ≡ q) × (x ≡ y)

  -- A watcher's words keep blocks with no other parent than honest nodes' words do.
  abbrev pub SameParents : Seen → Type 0
  SameParents v = (n s b p x q y : ℕ) → T (honest n) → T (block_kept lives n s b p x) → T (keeps_block (ledger_in v) s b q y) → (p ≡ q) × (x ≡ y)

  -- ---- the chain

  -- Block c of slot t is block b of slot s or descends from it, through blocks that honest nodes' words keep.
  abbrev pub IsOrDescends : ℕ → ℕ → ℕ → ℕ → Type 0
  IsOrDescends s b t c = Descends honest (block_kept lives) s b t c

  -- One of the two is the other or its ancestor, through blocks that honest nodes' words keep.
  abbrev pub OnOneChain : ℕ → ℕ → ℕ → ℕ → Type 0
  OnOneChain s b t c = Chained honest (block_kept lives) s b t c

  -- A block is settled for a host: a check answers 0 to a genuine proof for it, or an honest node told (6, s, b), at once or by the ancestor walk.
  pub data Settled (stakes : List ℕ) (s b : ℕ) : Type 0 where
    proved : (proof : List ℕ) (kind signers weight missing : ℕ) → GenuinePacket (length stakes) honest (told_ballot lives) proof
        → Checked (length stakes) (check_proof stakes proof) 0 (kind ∷ s ∷ b ∷ signers ∷ weight ∷ []) missing → Settled stakes s b
    reported : (n : ℕ) → T (honest n) → T (among (lives n).told (record_of 6 s b)) → Settled stakes s b

-- ---- the promises

-- ONE CHAIN: of any two blocks for which a check answers 0 to genuine proofs, one is the other or its ancestor.
abbrev pub ProofsChained : Type 0
ProofsChained =
    (stakes : List ℕ) (genesis : ℕ → ℕ) (honest : Test) (lives : Lives) → Ring stakes genesis honest lives → OneParent honest lives
    → (proof other : List ℕ) (kind slot block signers weight missing kind' slot' block' signers' weight' missing' : ℕ)
    → GenuinePacket (length stakes) honest (told_ballot lives) proof → GenuinePacket (length stakes) honest (told_ballot lives) other
    → Checked (length stakes) (check_proof stakes proof) 0 (kind ∷ slot ∷ block ∷ signers ∷ weight ∷ []) missing
    → Checked (length stakes) (check_proof stakes other) 0 (kind' ∷ slot' ∷ block' ∷ signers' ∷ weight' ∷ []) missing'
    → OnOneChain honest lives slot block slot' block'

-- The same of the blocks for which a proof writer answers 0 at honest nodes, each at any moment of its life, from stored votes or from kept masks:
-- nothing is asked of packets. Blocks are 64-bit numbers.
abbrev pub HonestProofsChained : Type 0
HonestProofsChained =
    (stakes : List ℕ) (genesis : ℕ → ℕ) (honest : Test) (lives : Lives) → Ring stakes genesis honest lives → OneParent honest lives
    → (n m : ℕ) (v w : Seen) → Moment stakes genesis honest lives n v → Moment stakes genesis honest lives m w
    → (buffer after buffer' after' : List ℕ) (slot block slot' block' written written' : ℕ) → block < 2 ^ 64 → block' < 2 ^ 64
    → Wrote (proof_on v.words (length buffer) slot block) buffer 0 written after
    → Wrote (proof_on w.words (length buffer') slot' block') buffer' 0 written' after'
    → OnOneChain honest lives slot block slot' block'

-- So it is with all settled blocks, by proofs and by records (6, s, b) that honest nodes' outboxes told.
abbrev pub SettledChained : Type 0
SettledChained =
    (stakes : List ℕ) (genesis : ℕ → ℕ) (honest : Test) (lives : Lives) → Ring stakes genesis honest lives → OneParent honest lives
    → (s b t c : ℕ) → Settled honest lives stakes s b → Settled honest lives stakes t c → OnOneChain honest lives s b t c

-- And one slot has one settled block.
abbrev pub SettledOnce : Type 0
SettledOnce =
    (stakes : List ℕ) (genesis : ℕ → ℕ) (honest : Test) (lives : Lives) → Ring stakes genesis honest lives → OneParent honest lives
    → (s b c : ℕ) → Settled honest lives stakes s b → Settled honest lives stakes s c → b ≡ c

-- The final blocks that two honest nodes' words have marked in a slot are one,
abbrev pub FinalMarksAgree : Type 0
FinalMarksAgree =
    (stakes : List ℕ) (genesis : ℕ → ℕ) (honest : Test) (lives : Lives) → Ring stakes genesis honest lives → OneParent honest lives
    → (n m s : ℕ) → T (honest n) → T (honest m) → T (not (none (final_mark lives n s))) → T (not (none (final_mark lives m s)))
    → final_mark lives n s ≡ final_mark lives m s

-- and so are those that are read off them.
abbrev pub FinalReadsAgree : Type 0
FinalReadsAgree =
    (stakes : List ℕ) (genesis : ℕ → ℕ) (honest : Test) (lives : Lives) → Ring stakes genesis honest lives → OneParent honest lives
    → (n m s number number' b c : ℕ) → T (honest n) → T (honest m)
    → FinalRead (final_on (lives n).words s) number b → FinalRead (final_on (lives m).words s) number' c → ¬ (b ≡ 0) → ¬ (c ≡ 0) → b ≡ c

-- Every genuine certificate of kind 1, 2 or 3 to which a check answers 0, in or above the slot of a block for which a check answers 0 to a genuine
-- proof, is for that block or for one that descends from it.
abbrev pub CertificatesDescend : Type 0
CertificatesDescend =
    (stakes : List ℕ) (genesis : ℕ → ℕ) (honest : Test) (lives : Lives) → Ring stakes genesis honest lives → OneParent honest lives
    → (proof packet : List ℕ) (kind slot block signers weight missing kind' slot' block' signers' weight' missing' : ℕ)
    → GenuinePacket (length stakes) honest (told_ballot lives) proof → GenuinePacket (length stakes) honest (told_ballot lives) packet
    → Checked (length stakes) (check_proof stakes proof) 0 (kind ∷ slot ∷ block ∷ signers ∷ weight ∷ []) missing
    → Checked (length stakes) (check_certificate stakes packet) 0 (kind' ∷ slot' ∷ block' ∷ signers' ∷ weight' ∷ []) missing'
    → T (serves_as (kind_in (length stakes) kind') certificate.NotarFallback) → slot ≤ slot' → IsOrDescends honest lives slot block slot' block'

-- NO CLASH: no honest node ever tells a record (8, s, b),
abbrev pub NoClash : Type 0
NoClash =
    (stakes : List ℕ) (genesis : ℕ → ℕ) (honest : Test) (lives : Lives) → Ring stakes genesis honest lives → OneParent honest lives
    → (n s b : ℕ) → T (honest n) → ¬ T (among (lives n).told (record_of 8 s b))

-- nor does a watcher that holds what is genuine.
abbrev pub WatchedNoClash : Type 0
WatchedNoClash =
    (stakes : List ℕ) (genesis : ℕ → ℕ) (honest : Test) (lives : Lives) → Ring stakes genesis honest lives → OneParent honest lives
    → (g : ℕ) (v : Seen) → WatcherSeen stakes g v → HoldsGenuine honest (told_ballot lives) (ledger_in v) → SameParents honest lives v
    → (s b : ℕ) → ¬ T (among v.told (record_of 8 s b))

-- ---- the premises as a host can check them

-- What is announced in place of the blocks that are kept,
abbrev pub AnnouncedIsEnough : Type 0
AnnouncedIsEnough =
    (stakes : List ℕ) (genesis : ℕ → ℕ) (honest : Test) (lives : Lives) → Ring stakes genesis honest lives → AnnouncedOnce honest lives → OneParent honest lives

-- all that arrives in place of all that is counted and kept,
abbrev pub ArrivalsAreEnough : Type 0
ArrivalsAreEnough =
    (stakes : List ℕ) (genesis : ℕ → ℕ) (honest : Test) (lives : Lives) → FedRing stakes genesis honest lives → AnnouncedOnce honest lives
    → Ring stakes genesis honest lives × OneParent honest lives

-- and at a watcher: what arrives there is genuine, and no block is announced to it with another parent than to an honest node.
abbrev pub WatchedArrivalsAreEnough : Type 0
WatchedArrivalsAreEnough =
    (stakes : List ℕ) (genesis : ℕ → ℕ) (honest : Test) (lives : Lives) → Ring stakes genesis honest lives
    → (g : ℕ) (v : Seen) → WatcherSeen stakes g v → FedGenuine honest (told_ballot lives) stakes v.came
    → ((n s b p x q y : ℕ) → T (honest n) → T (announced_by (lives n).came s b p x) → T (announced_by v.came s b q y) → (p ≡ q) × (x ≡ y))
    → HoldsGenuine honest (told_ballot lives) (ledger_in v) × SameParents honest lives v
