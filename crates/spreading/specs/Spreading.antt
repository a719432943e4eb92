-- FINALITY SPREADS, over what is seen of lives: what an honest node's certificate writer gave, handed to any other honest node or to a watcher, is held there from
-- then on, and where it makes a block final the record (6, s, b) has been told by the end of that very call. Each promise is a statement that proofs/ proves
-- under the same name in small letters.
use Rattle.std.specs.Prelude.{◌≡◌, not, List, ◌∷◌, ◌++◌, ◌⊎◌, ℕ, ◌≤◌, ◌<◌, ◌^◌, T, length, take}
use Rattle.rulebook.specs.declared.CertificateKind.{CertificateKind}
use Rattle.rulebook.specs.declared.CertificateKind.TheVariants as certificate
use Rattle.rulebook.specs.PaperNumbers.{number_in}
use Rattle.rulebook.specs.Weights.{last_slot}
use Rattle.rulebook.specs.Ledger.{none}
use Rattle.rulebook.specs.Pool.{held}
use Rattle.rulebook.specs.Rules.{record_of, is_final}
use Rattle.rulebook.specs.Taking.{Arrival, of_packet}
use Rattle.writers.specs.Writing.{certificate_on}
use Rattle.answers.specs.Face.{Wrote}
use Rattle.safety.specs.Slot.{Test}
use Rattle.safety.specs.Ballots.{among}
use Rattle.safety.specs.Watchers.{HoldsGenuine}
use Rattle.seen.specs.Seen.{Seen, ledger_in, WatcherSeen}
use Rattle.seen.specs.Ring.{Lives, told_ballot, Ring, Moment}
use Rattle.seen.specs.Chain.{OneParent, SameParents}
use Rattle.seen.specs.Progress.{Gives}

module _ (stakes : List ℕ) (genesis : ℕ → ℕ) (honest : Test) (lives : Lives) where
  -- WHO LOOKS ON: an honest node at one of its moments, or a watcher whose words count and keep what is genuine, and keep blocks with no other parent than
  -- honest nodes' words do.
  pub data LooksOn (w : Seen) : Type 0 where
    a_node : (m : ℕ) → Moment stakes genesis honest lives m w → LooksOn w
    a_watcher : (g : ℕ) → WatcherSeen stakes g w → HoldsGenuine honest (told_ballot lives) (ledger_in w) → SameParents honest lives w → LooksOn w

  -- HANDED OVER to w: an honest node's certificate writer, asked at a moment of its life for kind k, slot s and block b, answered 0, and the packet that it
  -- wrote to the buffer's front has arrived at w, alone and at whatever moment.
  pub record Given (w : Seen) (k : CertificateKind) (s b : ℕ) : Type 0 where
    pub writer : ℕ
    pub then : Seen
    pub moment : Moment stakes genesis honest lives writer then
    pub buffer : List ℕ
    pub after : List ℕ
    pub written : ℕ
    pub wrote : Wrote (certificate_on then.words (length buffer) (number_in (length stakes) k) s b) buffer 0 written after
    pub before : List Arrival
    pub later : List Arrival
    pub handed : w.came ≡ before ++ (of_packet (take written after) ∷ later)

  -- What makes block b of slot s final was handed over: kind 1, or kind 2 and, by the same or another honest node, kind 5.
  pub data FinalGiven (w : Seen) (s b : ℕ) : Type 0 where
    fast : Given w certificate.FastFinal s b → FinalGiven w s b
    slow : Given w certificate.Notar s b → Given w certificate.Final s 0 → FinalGiven w s b

-- ---- the promises

-- Where a block is final by certificates in an honest node's words its certificate writer gives what makes it so: kind 1, or kinds 2 and 5.
abbrev pub FinalIsGiven : Type 0
FinalIsGiven =
    (stakes : List ℕ) (genesis : ℕ → ℕ) (honest : Test) (lives : Lives) (n : ℕ) (v : Seen) → Moment stakes genesis honest lives n v
    → (s b : ℕ) → 1 ≤ s → s ≤ last_slot → T (not (none b)) → T (is_final (ledger_in v) s b)
    → Gives stakes v certificate.FastFinal s b ⊎ (Gives stakes v certificate.Notar s b × Gives stakes v certificate.Final s 0)

-- WHAT IS HANDED OVER IS HELD by who looks on, from then on. Blocks are 64-bit numbers.
abbrev pub GivenIsHeld : Type 0
GivenIsHeld =
    (stakes : List ℕ) (genesis : ℕ → ℕ) (honest : Test) (lives : Lives) → Ring stakes genesis honest lives
    → (w : Seen) → LooksOn stakes genesis honest lives w → (k : CertificateKind) (s b : ℕ) → b < 2 ^ 64 → Given stakes genesis honest lives w k s b
    → T (held (ledger_in w) k s b)

-- FINALITY SPREADS: who looks on has told (6, s, b) by the end of the call that handed over what makes b final, in that call or before; and never an (8, s, _).
abbrev pub FinalitySpreads : Type 0
FinalitySpreads =
    (stakes : List ℕ) (genesis : ℕ → ℕ) (honest : Test) (lives : Lives) → Ring stakes genesis honest lives → OneParent honest lives
    → (w : Seen) → LooksOn stakes genesis honest lives w → (s b : ℕ) → b < 2 ^ 64 → FinalGiven stakes genesis honest lives w s b
    → T (among w.told (record_of 6 s b)) × ((c : ℕ) → ¬ T (among w.told (record_of 8 s c)))
