-- Watchers, which take what a node takes and never vote: what their writers give, and what that is worth. "A watcher has no stake in
-- demand 3": a ring may have any number of them, and says nothing of them.
use Rattle.std.specs.Prelude.{◌≡◌, Bool, List, ◌++◌, ℕ, ◌<◌, ◌^◌, length, T, Ok}
use Rattle.rulebook.specs.declared.CertificateKind.{CertificateKind}
use Rattle.rulebook.specs.Certificates.{Certificate}
use Rattle.rulebook.specs.Ledger.{Ledger, fresh, cell_at, kept_at, is_kept}
use Rattle.rulebook.specs.Pool.{place_kind}
use Rattle.rulebook.specs.Rules.{record_of}
use Rattle.rulebook.specs.Inputs.{watch_verdict}
use Rattle.rulebook.specs.Taking.{Arrival}
use Rattle.rulebook.specs.WellFormed.{kept_in}
use Rattle.rulebook.specs.Checker.{judge, check_certificate, check_proof}
use Rattle.rulebook.specs.Writers.{write_certificate, write_proof}
use Rattle.safety.specs.Slot.{Test, Ballot}
use Rattle.safety.specs.Ballots.{has}
use Rattle.safety.specs.Grounds.{FinalIn, ClashIn}
use Rattle.safety.specs.Ring.{after_all, made_in, brought_by, HandedBy, cast_by, Ring, Signers, Genuine, GenuinePacket}
use Rattle.safety.specs.Promises.{AcceptedAs}

-- A watcher after all that arrived.
abbrev pub watched : List ℕ → ℕ → List Arrival → Ledger
watched stakes genesis lived = after_all (fresh stakes (length stakes) genesis) lived

-- "Its written proofs pass the checker", and its written certificates, as those of a node do.
abbrev pub WatchedCertificateAccepted : Type 0
WatchedCertificateAccepted =
    (stakes : List ℕ) (genesis : ℕ) → watch_verdict stakes genesis ≡ Ok tt → (lived : List Arrival)
    → (room : ℕ) (k : CertificateKind) (s b n : ℕ) → b < 2 ^ 64
    → (write_certificate (watched stakes genesis lived) room k s b).answer ≡ Ok n
    → AcceptedAs (check_certificate stakes (write_certificate (watched stakes genesis lived) room k s b).bytes) k s b

abbrev pub WatchedProofAccepted : Type 0
WatchedProofAccepted =
    (stakes : List ℕ) (genesis : ℕ) → watch_verdict stakes genesis ≡ Ok tt → (lived : List Arrival)
    → (room s b n : ℕ) → b < 2 ^ 64
    → (write_proof (watched stakes genesis lived) room s b).answer ≡ Ok n
    → (k : CertificateKind) × AcceptedAs (check_proof stakes (write_proof (watched stakes genesis lived) room s b).bytes) k s b

-- Each record (6, s, b) of a watcher is for a final block, and each record (8, s, b) for one of two, as those of a node are.
abbrev pub WatchedFinalsGrounded : Type 0
WatchedFinalsGrounded =
    (stakes : List ℕ) (genesis : ℕ) → watch_verdict stakes genesis ≡ Ok tt → (lived : List Arrival) (s b : ℕ)
    → T (made_in (fresh stakes (length stakes) genesis) lived (record_of 6 s b)) → FinalIn (watched stakes genesis lived) s b

abbrev pub WatchedClashesGrounded : Type 0
WatchedClashesGrounded =
    (stakes : List ℕ) (genesis : ℕ) → watch_verdict stakes genesis ≡ Ok tt → (lived : List Arrival) (s b : ℕ)
    → T (made_in (fresh stakes (length stakes) genesis) lived (record_of 8 s b)) → ClashIn (watched stakes genesis lived) s b

-- Which nodes are honest, and which ballots each node cast in each slot.
module _ (honest : Test) (cast : ℕ → ℕ → Ballot → Bool) where
  -- A pool counts an honest node's vote only where that node cast it, and the kept certificates do likewise.
  pub record HoldsGenuine (l : Ledger) : Type 0 where
    pub pool : (m s : ℕ) (v : Ballot) → T (honest m) → T (has (cell_at l s m) v) → T (cast m s v)
    pub kept : (s j : ℕ) → T (is_kept (kept_at l s j)) → Signers honest cast (place_kind j) (kept_in s (kept_at l s j))

  -- The same over what arrives: of votes, and of certificates that the checker accepts.
  pub record FedGenuine (stakes : List ℕ) (lived : List Arrival) : Type 0 where
    pub mail : (m s : ℕ) (v : Ballot) → T (honest m) → T (brought_by lived s m v) → T (cast m s v)
    pub packets : (c : Certificate) → HandedBy lived c → judge stakes c ≡ Ok tt → Genuine (length stakes) honest cast c

-- What a watcher holds is genuine where what it was fed is.
abbrev pub WatchedMailIsEnough : Type 0
WatchedMailIsEnough =
    (stakes : List ℕ) (genesis : ℕ → ℕ) (honest : Test) (fed : ℕ → List Arrival) → Ring stakes genesis honest fed
    → (g : ℕ) → watch_verdict stakes g ≡ Ok tt → (lived : List Arrival)
    → FedGenuine honest (cast_by stakes genesis honest fed) stakes lived → HoldsGenuine honest (cast_by stakes genesis honest fed) (watched stakes g lived)

-- And so is what its writers give then, so that demand 3 holds of it.
abbrev pub WatchedCertificateGenuine : Type 0
WatchedCertificateGenuine =
    (stakes : List ℕ) (genesis : ℕ → ℕ) (honest : Test) (fed : ℕ → List Arrival) → Ring stakes genesis honest fed
    → (g : ℕ) → watch_verdict stakes g ≡ Ok tt → (lived : List Arrival) → HoldsGenuine honest (cast_by stakes genesis honest fed) (watched stakes g lived)
    → (room : ℕ) (k : CertificateKind) (s b size : ℕ) → b < 2 ^ 64
    → (write_certificate (watched stakes g lived) room k s b).answer ≡ Ok size
    → GenuinePacket (length stakes) honest (cast_by stakes genesis honest fed) (write_certificate (watched stakes g lived) room k s b).bytes

abbrev pub WatchedProofGenuine : Type 0
WatchedProofGenuine =
    (stakes : List ℕ) (genesis : ℕ → ℕ) (honest : Test) (fed : ℕ → List Arrival) → Ring stakes genesis honest fed
    → (g : ℕ) → watch_verdict stakes g ≡ Ok tt → (lived : List Arrival) → HoldsGenuine honest (cast_by stakes genesis honest fed) (watched stakes g lived)
    → (room s b size : ℕ) → b < 2 ^ 64
    → (write_proof (watched stakes g lived) room s b).answer ≡ Ok size
    → GenuinePacket (length stakes) honest (cast_by stakes genesis honest fed) (write_proof (watched stakes g lived) room s b).bytes

module _ (stakes : List ℕ) (genesis : ℕ → ℕ) (honest : Test) (fed : ℕ → List Arrival) where
  -- Who writes: an honest node at a moment of its life, or a watcher that holds what is genuine; a table's watchers may be many, with a
  -- genesis and a life each.
  pub data Writer : Ledger → Type 0 where
    node : (n : ℕ) → T (honest n) → (before later : List Arrival) → fed n ≡ before ++ later → Writer (after_all (fresh stakes n (genesis n)) before)
    watcher : (g : ℕ) → watch_verdict stakes g ≡ Ok tt → (lived : List Arrival) → HoldsGenuine honest (cast_by stakes genesis honest fed) (watched stakes g lived)
        → Writer (watched stakes g lived)

-- Two of them, nodes or watchers, never write proofs for different blocks of one slot.
abbrev pub WatchedProofsAgree : Type 0
WatchedProofsAgree =
    (stakes : List ℕ) (genesis : ℕ → ℕ) (honest : Test) (fed : ℕ → List Arrival) → Ring stakes genesis honest fed
    → (l m : Ledger) → Writer stakes genesis honest fed l → Writer stakes genesis honest fed m → (room room' s b d size size' : ℕ) → b < 2 ^ 64 → d < 2 ^ 64
    → (write_proof l room s b).answer ≡ Ok size → (write_proof m room' s d).answer ≡ Ok size'
    → b ≡ d
