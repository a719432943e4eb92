-- "And no honest node ever makes record (8, s, b)": nor does a watcher.
use Rattle.std.specs.Prelude.{◌≡◌, List, ℕ, T, length, Ok}
use Rattle.rulebook.specs.Ledger.{fresh}
use Rattle.rulebook.specs.Rules.{record_of}
use Rattle.rulebook.specs.Inputs.{watch_verdict}
use Rattle.rulebook.specs.Taking.{Arrival}
use Rattle.safety.specs.Slot.{Test}
use Rattle.safety.specs.Ring.{cast_by, made_in, announced_by, Ring}
use Rattle.safety.specs.Watchers.{watched, HoldsGenuine}
use Rattle.chain.specs.OneChain.{SameParents, OneParent, Observer}

-- A watcher that holds what is genuine, and keeps blocks with no other parent than honest nodes do, looks on in good faith.
abbrev pub WatcherObserves : Type 0
WatcherObserves =
    (stakes : List ℕ) (genesis : ℕ → ℕ) (honest : Test) (fed : ℕ → List Arrival)
    → (g : ℕ) → watch_verdict stakes g ≡ Ok tt → (lived : List Arrival) → HoldsGenuine honest (cast_by stakes genesis honest fed) (watched stakes g lived)
    → SameParents stakes genesis honest fed (watched stakes g lived) → Observer stakes genesis honest fed (watched stakes g lived)

-- So it never makes record (8, s, b).
abbrev pub WatchedNoClash : Type 0
WatchedNoClash =
    (stakes : List ℕ) (genesis : ℕ → ℕ) (honest : Test) (fed : ℕ → List Arrival) → Ring stakes genesis honest fed → OneParent stakes genesis honest fed
    → (g : ℕ) → watch_verdict stakes g ≡ Ok tt → (lived : List Arrival) → HoldsGenuine honest (cast_by stakes genesis honest fed) (watched stakes g lived)
    → SameParents stakes genesis honest fed (watched stakes g lived)
    → (s b : ℕ) → ¬ T (made_in (fresh stakes (length stakes) g) lived (record_of 8 s b))

-- A host can check what is announced to honest nodes and to the watcher in place of what is kept.
abbrev pub WatchedAnnouncedIsEnough : Type 0
WatchedAnnouncedIsEnough =
    (stakes : List ℕ) (genesis : ℕ → ℕ) (honest : Test) (fed : ℕ → List Arrival) → Ring stakes genesis honest fed
    → (g : ℕ) → watch_verdict stakes g ≡ Ok tt → (lived : List Arrival)
    → ((n s b p x q y : ℕ) → T (honest n) → T (announced_by (fed n) s b p x) → T (announced_by lived s b q y) → (p ≡ q) × (x ≡ y))
    → SameParents stakes genesis honest fed (watched stakes g lived)
