-- FOLLOWING IN ANY ORDER, over what is seen of lives, nodes' and watchers': "For the same accepted votes, blocks and certificates, its pool and held certificates
-- equal those of a voting node fed the same, own votes included as ordinary ones." Each promise is a statement that proofs/ proves under the same name in small letters.
use Rattle.std.specs.Prelude.{◌≡◌, Bool, ◌&&◌, ◌||◌, List, ℕ, ◌≤◌, eqb, length}
use Rattle.rulebook.specs.declared.CertificateKind.{CertificateKind}
use Rattle.rulebook.specs.declared.Who.{Who}
use Rattle.rulebook.specs.Certificates.{Kept}
use Rattle.rulebook.specs.Weights.{last_slot}
use Rattle.rulebook.specs.Ledger.{Ledger, fresh, row_at, cell_at, keeps_block}
use Rattle.rulebook.specs.Pool.{weigh, held}
use Rattle.safety.specs.Slot.{Ballot}
use Rattle.safety.specs.Ballots.{has, record_for, among, brings, announces}
use Rattle.seen.specs.Seen.{Seen, ledger_in, Alive}
use Rattle.onlookers.specs.Accepted.{some_accepted, keeps_certificate, hands}

-- ---- what a life took

-- The ledger that it began with; the own number stands in its words.
abbrev pub begun_as : List ℕ → ℕ → Seen → Ledger
begun_as stakes genesis v = fresh stakes (ledger_in v).own genesis

-- A vote of node n for slot s: it was accepted, or it is the own node's and was told, "own votes included as ordinary ones".
abbrev pub took_vote : List ℕ → ℕ → Seen → ℕ → ℕ → Ballot → Bool
took_vote stakes genesis v s n b =
    some_accepted (λ c. brings c s n b) (begun_as stakes genesis v) v.came || (eqb n (ledger_in v).own && among v.told (record_for s b))

-- Block b of slot s with the parent (p, x).
abbrev pub took_block : List ℕ → ℕ → Seen → ℕ → ℕ → ℕ → ℕ → Bool
took_block stakes genesis v s b p x = some_accepted (λ c. announces c s b p x) (begun_as stakes genesis v) v.came

-- A certificate of kind k for slot s with q's block and signers.
abbrev pub took_certificate : List ℕ → ℕ → Seen → CertificateKind → ℕ → Kept → Bool
took_certificate stakes genesis v k s q = some_accepted (λ c. hands (length stakes) c k s q) (begun_as stakes genesis v) v.came

-- ---- and holds

-- What a life holds is what it took, neither more nor less: a vote stands in its node's cell, a block and a certificate in one of their slot's places, exactly where it
-- was accepted or, an own vote, told.
pub record HoldsTaken (stakes : List ℕ) (genesis : ℕ) (v : Seen) : Type 0 where
  pub votes : (s n : ℕ) (b : Ballot) → has (cell_at (ledger_in v) s n) b ≡ took_vote stakes genesis v s n b
  pub blocks : (s b p x : ℕ) → keeps_block (ledger_in v) s b p x ≡ took_block stakes genesis v s b p x
  pub certificates : (k : CertificateKind) (s : ℕ) (q : Kept) → keeps_certificate (ledger_in v) k s q ≡ took_certificate stakes genesis v k s q

abbrev pub HoldsWhatItTook : Type 0
HoldsWhatItTook = (stakes : List ℕ) (genesis : ℕ) (v : Seen) → Alive stakes genesis v → HoldsTaken stakes genesis v

-- Two lives took the same votes, blocks and certificates.
pub record TookTheSame (stakes : List ℕ) (genesis genesis' : ℕ) (v w : Seen) : Type 0 where
  pub votes : (s n : ℕ) (b : Ballot) → took_vote stakes genesis' w s n b ≡ took_vote stakes genesis v s n b
  pub blocks : (s b p x : ℕ) → took_block stakes genesis' w s b p x ≡ took_block stakes genesis v s b p x
  pub certificates : (k : CertificateKind) (s : ℕ) (q : Kept) → took_certificate stakes genesis' w k s q ≡ took_certificate stakes genesis v k s q

-- Two ledgers have, as sets, the same votes, blocks and certificates kept; so each weight is the same, for every block and for skips and finals, each slot's card, and
-- what is held.
pub record SameHoldings (l m : Ledger) : Type 0 where
  pub votes : (s n : ℕ) (b : Ballot) → has (cell_at m s n) b ≡ has (cell_at l s n) b
  pub blocks : (s b p x : ℕ) → keeps_block m s b p x ≡ keeps_block l s b p x
  pub certificates : (k : CertificateKind) (s : ℕ) (q : Kept) → keeps_certificate m k s q ≡ keeps_certificate l k s q
  pub weights : (s : ℕ) (x : Who) → weigh m s x ≡ weigh l s x
  pub cards : (s : ℕ) → 1 ≤ s → s ≤ last_slot → (row_at m s).card ≡ (row_at l s).card
  pub holds : (k : CertificateKind) (s b : ℕ) → held m k s b ≡ held l k s b

-- FOLLOWING: two lives with one table that took the same hold the same, whoever they are, in whatever order it came, singly or in trays, whatever else was refused.
abbrev pub FollowsInAnyOrder : Type 0
FollowsInAnyOrder =
    (stakes : List ℕ) (genesis genesis' : ℕ) (v w : Seen) → Alive stakes genesis v → Alive stakes genesis' w → TookTheSame stakes genesis genesis' v w
    → SameHoldings (ledger_in v) (ledger_in w)
