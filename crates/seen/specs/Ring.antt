-- THE RING over seen lives: a vote was cast where an outbox told it, and counted where the words hold it.
use Rattle.std.specs.Prelude.{◌≡◌, Bool, List, ℕ, T, length, Ok}
use Rattle.rulebook.specs.Certificates.{Certificate, Kept}
use Rattle.rulebook.specs.Ledger.{cell_at, kept_at, is_kept}
use Rattle.rulebook.specs.Pool.{place_kind}
use Rattle.rulebook.specs.Checker.{judge}
use Rattle.rulebook.specs.WellFormed.{kept_in}
use Rattle.safety.specs.Slot.{Test, Ballot}
use Rattle.safety.specs.Ballots.{has, record_for, among}
use Rattle.safety.specs.Ring.{brought_by, HandedBy, FewOthers, Signers, Genuine}
use Rattle.seen.specs.Seen.{Seen, ledger_in, NodeSeen, Earlier}

-- What is seen of each node's life.
abbrev pub Lives : Type 0
Lives = ℕ → Seen

-- Node n's outbox told the ballot for slot s.
abbrev pub told_ballot : Lives → ℕ → ℕ → Ballot → Bool
told_ballot lives n s v = among (lives n).told (record_for s v)

-- Node n's words count node m's ballot for slot s: it stands in m's cell of that slot.
abbrev pub counted_ballot : Lives → ℕ → ℕ → ℕ → Ballot → Bool
counted_ballot lives n m s v = has (cell_at (ledger_in (lives n)) s m) v

-- What those words keep in place j of slot s.
abbrev pub kept_by : Lives → ℕ → ℕ → ℕ → Kept
kept_by lives n s j = kept_at (ledger_in (lives n)) s j

-- The stake table, the genesis that each node was started with, which nodes are honest, and what is seen of each node's life.
module _ (stakes : List ℕ) (genesis : ℕ → ℕ) (honest : Test) (lives : Lives) where
  -- All other stake is strictly under one fifth; what is seen of every honest node is a life with this table under its own number. Any of these lives may
  -- have ended: nothing is asked of how far one goes, so that honest nodes that have stopped count as honest here, however many they are.
  pub record Nodes : Type 0 where
    pub few : FewOthers stakes honest
    pub lived : (n : ℕ) → T (honest n) → NodeSeen stakes n (genesis n) (lives n)

  -- THE PREMISE: these nodes; an honest node's words count another honest node's vote only where the other's outbox told it; and every honest node
  -- among the signers of a certificate that an honest node's words keep, that node itself included, told that vote.
  pub record Ring : Type 0 where
    pub nodes : Nodes
    pub counted : (n m s : ℕ) (v : Ballot) → T (honest n) → T (honest m) → ¬ (m ≡ n) → T (counted_ballot lives n m s v) → T (told_ballot lives m s v)
    pub kept : (n s j : ℕ) → T (honest n) → T (is_kept (kept_by lives n s j)) → Signers honest (told_ballot lives) (place_kind j) (kept_in s (kept_by lives n s j))

  -- The same with the last two parts over what arrives.
  pub record FedRing : Type 0 where
    pub nodes : Nodes
    pub mail : (n m s : ℕ) (v : Ballot) → T (honest n) → T (honest m) → ¬ (m ≡ n) → T (brought_by (lives n).came s m v) → T (told_ballot lives m s v)
    pub packets : (n : ℕ) (c : Certificate) → T (honest n) → HandedBy (lives n).came c → judge stakes c ≡ Ok tt → Genuine (length stakes) honest (told_ballot lives) c

-- What is seen of an honest node at one of its moments.
pub record Moment (stakes : List ℕ) (genesis : ℕ → ℕ) (honest : Test) (lives : Lives) (n : ℕ) (v : Seen) : Type 0 where
  pub is_honest : T (honest n)
  pub lived : NodeSeen stakes n (genesis n) v
  pub earlier : Earlier v (lives n)
