-- WATCHERS over what is seen of them: "a node that never votes"; a watcher beside a voting node; "a watcher has no stake in demand 3 and its written
-- proofs pass the checker". A ring may have any number of them, and says nothing of them.
use Rattle.std.specs.Prelude.{◌≡◌, false, List, ℕ, T}
use Rattle.rulebook.specs.declared.CertificateKind.{CertificateKind}
use Rattle.rulebook.specs.Ledger.{fresh}
use Rattle.rulebook.specs.Pool.{held}
use Rattle.rulebook.specs.Rules.{Record}
use Rattle.watchers.specs.Watching.{tells_vote, shown, SamePool}
use Rattle.safety.specs.Slot.{Test}
use Rattle.safety.specs.Ballots.{among}
use Rattle.safety.specs.Watchers.{HoldsGenuine, FedGenuine}
use Rattle.seen.specs.Seen.{Seen, ledger_in, NodeSeen, WatcherSeen}
use Rattle.seen.specs.Ring.{Lives, told_ballot, Ring}
use Rattle.seen.specs.Written.{CertificateGenuine, ProofGenuine}

-- Nothing that a watcher told is a record of the kinds 1 to 5.
abbrev pub WatcherNeverVotes : Type 0
WatcherNeverVotes = (stakes : List ℕ) (genesis : ℕ) (v : Seen) → WatcherSeen stakes genesis v → (r : Record) → T (among v.told r) → tells_vote r ≡ false

-- The words of a node and of a watcher mean the same votes, blocks and certificates, and the same certificates are held.
abbrev pub PoolsEqual : Seen → Seen → Type 0
PoolsEqual node watcher = SamePool (ledger_in node) (ledger_in watcher) × ((k : CertificateKind) (s b : ℕ) → held (ledger_in watcher) k s b ≡ held (ledger_in node) k s b)

-- "For the same accepted votes, blocks and certificates, its pool and held certificates equal those of a voting node fed the same, own votes included
-- as ordinary ones": where there arrived what a watcher is shown of a node's life.
abbrev pub WatcherFollows : Type 0
WatcherFollows =
    (stakes : List ℕ) (own genesis : ℕ) (node watcher : Seen) → NodeSeen stakes own genesis node → WatcherSeen stakes genesis watcher
    → watcher.came ≡ shown (fresh stakes own genesis) node.came → PoolsEqual node watcher

-- What a watcher's writers write is genuine where what its words count and keep is,
abbrev pub WatchedGenuine : Type 0
WatchedGenuine =
    (stakes : List ℕ) (genesis : ℕ → ℕ) (honest : Test) (lives : Lives) → Ring stakes genesis honest lives
    → (g : ℕ) (v : Seen) → WatcherSeen stakes g v → HoldsGenuine honest (told_ballot lives) (ledger_in v)
    → CertificateGenuine stakes honest (told_ballot lives) v.words × ProofGenuine stakes honest (told_ballot lives) v.words

-- and that is so where what arrived is.
abbrev pub WatchedMailIsEnough : Type 0
WatchedMailIsEnough =
    (stakes : List ℕ) (genesis : ℕ → ℕ) (honest : Test) (lives : Lives) → Ring stakes genesis honest lives
    → (g : ℕ) (v : Seen) → WatcherSeen stakes g v → FedGenuine honest (told_ballot lives) stakes v.came → HoldsGenuine honest (told_ballot lives) (ledger_in v)
