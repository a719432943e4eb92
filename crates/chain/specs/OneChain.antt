-- #114, one chain: "of any two blocks for which the checker accepts proofs, in slots 1 to 16 and at any honest nodes, one is the other or its
-- ancestor. And no honest node ever makes record (8, s, b)." First the premises and what the words mean, then the promises, each as a
-- statement that proofs/ proves under the same name in small letters. A block is a slot and a number throughout, as in the rules.
use Rattle.std.specs.Prelude.{◌≡◌, Bool, not, List, ◌++◌, ℕ, ◌≤◌, ◌<◌, ◌^◌, T, length, Ok}
use Rattle.rulebook.specs.declared.Accepted.{Accepted}
use Rattle.rulebook.specs.declared.CertificateKind.{CertificateKind}
use Rattle.rulebook.specs.declared.CertificateKind.TheVariants as certificate
use Rattle.rulebook.specs.Ledger.{Ledger, none, fresh, row_at, cell_at, keeps_block, kept_at, is_kept}
use Rattle.rulebook.specs.Pool.{place_kind, serves_as}
use Rattle.rulebook.specs.Rules.{record_of}
use Rattle.rulebook.specs.Checker.{judge_kind, check_certificate, check_proof}
use Rattle.rulebook.specs.Taking.{Arrival}
use Rattle.rulebook.specs.WellFormed.{kept_in}
use Rattle.rulebook.specs.Writers.{write_proof}
use Rattle.safety.specs.Slot.{Test, Ballot}
use Rattle.safety.specs.Ballots.{has}
use Rattle.safety.specs.Grounds.{Held, FinalIn, ClashIn}
use Rattle.safety.specs.Moves.{SameTable}
use Rattle.safety.specs.Ring.{after_all, made_in, announced_by, life, cast_by, Signers, Ring, FedRing, GenuinePacket}
use Rattle.chain.specs.Chain.{Descends, Chained}

-- A ring as in demand 3: the stake table, the genesis that each node was started with, which nodes are honest, and what arrived at each
-- honest node over its whole life.
module _ (stakes : List ℕ) (genesis : ℕ → ℕ) (honest : Test) (fed : ℕ → List Arrival) where
  -- ---- the premise

  -- Node n keeps block b of slot s with the parent (p, x) at the end of its life: what it kept at any moment it keeps then.
  abbrev pub kept_by : ℕ → ℕ → ℕ → ℕ → ℕ → Bool
  kept_by n s b p x = keeps_block (life stakes genesis honest fed n) s b p x

  -- A ledger keeps no block with another parent than an honest node does.
  abbrev pub SameParents : Ledger → Type 0
  SameParents l = (n s b p x q y : ℕ) → T (honest n) → T (kept_by n s b p x) → T (keeps_block l s b q y) → (p ≡ q) × (x ≡ y)

  -- THE PREMISE of one chain, besides that of the ring: "each block number having one slot and one parent everywhere". Everywhere is at every
  -- honest node, for every block that it keeps, whether or not it votes for it. What is asked is one parent for a slot and a number: one
  -- number may stand in two slots, and genesis's may too; nothing is asked of votes, certificates or proofs.
  abbrev pub OneParent : Type 0
  OneParent = (n : ℕ) → T (honest n) → SameParents (life stakes genesis honest fed n)

  -- The request's own words, which say more: each number that an honest node keeps has its slot, its parent's slot and its parent.
  pub record Numbered : Type 0 where
    pub slot_of : ℕ → ℕ
    pub parent_slot : ℕ → ℕ
    pub parent_of : ℕ → ℕ
    pub one_slot : (n s b p x : ℕ) → T (honest n) → T (kept_by n s b p x) → s ≡ slot_of b
    pub one_parent : (n s b p x : ℕ) → T (honest n) → T (kept_by n s b p x) → (p ≡ parent_slot b) × (x ≡ parent_of b)

  -- The same as a host can check it, over what is announced to honest nodes.
  abbrev pub AnnouncedOnce : Type 0
  AnnouncedOnce =
      (n m s b p x q y : ℕ) → T (honest n) → T (honest m) → T (announced_by (fed n) s b p x) → T (announced_by (fed m) s b q y) → (p ≡ q) × (x ≡ y)

  -- ---- the chain

  -- Block c of slot t is block b of slot s or descends from it, through blocks that honest nodes keep.
  abbrev pub IsOrDescends : ℕ → ℕ → ℕ → ℕ → Type 0
  IsOrDescends s b t c = Descends honest kept_by s b t c

  -- One of the two is the other or its ancestor, through blocks that honest nodes keep.
  abbrev pub OnOneChain : ℕ → ℕ → ℕ → ℕ → Type 0
  OnOneChain s b t c = Chained honest kept_by s b t c

  -- ---- who looks on

  -- A ledger that looks on in good faith: its stake table is the ring's; it counts an honest node's vote only if that node cast it, and so do
  -- the certificates that it keeps, each of which the checker accepts; it keeps blocks with parents in lower slots, and with no other parent
  -- than honest nodes do. Whether it votes does not matter: it is an honest node at the end of its life, or one that only watches.
  pub record Observer (l : Ledger) : Type 0 where
    pub table : SameTable (fresh stakes l.own l.genesis) l
    pub pool : (n s : ℕ) (v : Ballot) → T (honest n) → T (has (cell_at l s n) v) → T (cast_by stakes genesis honest fed n s v)
    pub accepted : (s j : ℕ) → T (is_kept (kept_at l s j)) → judge_kind stakes (place_kind j) (kept_in s (kept_at l s j)) ≡ Ok tt
    pub kept : (s j : ℕ) → T (is_kept (kept_at l s j)) → Signers honest (cast_by stakes genesis honest fed) (place_kind j) (kept_in s (kept_at l s j))
    pub lower : (s b p x : ℕ) → T (keeps_block l s b p x) → p < s
    pub parents : SameParents l

  -- ---- final and certified blocks

  -- A packet whose certificates count an honest node's vote only if that node cast it.
  abbrev pub GenuineHere : List ℕ → Type 0
  GenuineHere packet = GenuinePacket (length stakes) honest (cast_by stakes genesis honest fed) packet

  -- Block b of slot s is final by certificates: the checker accepts a genuine proof for it, or one who looks on holds kind 1 for it, or
  -- kinds 2 for it and 5.
  pub data ByCertificates (s b : ℕ) : Type 0 where
    proved : (proof : List ℕ) (a : Accepted) → GenuineHere proof → check_proof stakes proof ≡ Ok a → a.slot.0 ≡ s → a.block ≡ b → ByCertificates s b
    held_fast : (l : Ledger) → Observer l → Held l certificate.FastFinal s b → ByCertificates s b
    held_slow : (l : Ledger) → Observer l → Held l certificate.Notar s b → Held l certificate.Final s 0 → ByCertificates s b

  -- Block b of slot s is settled for somebody: it is final by certificates; an honest node makes record (6, s, b), at once or by the ancestor
  -- walk; or it is final in the ledger of one who looks on, by certificates or as an ancestor.
  pub data Settled (s b : ℕ) : Type 0 where
    certified : ByCertificates s b → Settled s b
    reported : (n : ℕ) → T (honest n) → T (made_in (fresh stakes n (genesis n)) (fed n) (record_of 6 s b)) → Settled s b
    seen : (l : Ledger) → Observer l → FinalIn l s b → Settled s b

  -- A certificate of kind 1, 2 or 3 stands for block b of slot s: the checker accepts a genuine one, or one who looks on holds one.
  pub data HasCertificate (s b : ℕ) : Type 0 where
    checked : (packet : List ℕ) (a : Accepted) → GenuineHere packet → check_certificate stakes packet ≡ Ok a
        → T (serves_as a.kind certificate.NotarFallback) → a.slot.0 ≡ s → a.block ≡ b → HasCertificate s b
    held : (l : Ledger) → Observer l → (k : CertificateKind) → T (serves_as k certificate.NotarFallback) → Held l k s b → HasCertificate s b

-- ---- the promises

-- ONE CHAIN: of any two blocks for which the checker accepts genuine proofs, one is the other or its ancestor. The checker accepts slots 1 to
-- 16 alone.
abbrev pub ProofsChained : Type 0
ProofsChained =
    (stakes : List ℕ) (genesis : ℕ → ℕ) (honest : Test) (fed : ℕ → List Arrival) → Ring stakes genesis honest fed → OneParent stakes genesis honest fed
    → (proof other : List ℕ) (a d : Accepted) → GenuineHere stakes genesis honest fed proof → GenuineHere stakes genesis honest fed other
    → check_proof stakes proof ≡ Ok a → check_proof stakes other ≡ Ok d
    → OnOneChain stakes genesis honest fed a.slot.0 a.block d.slot.0 d.block

-- The same of what honest nodes' writers give, each at any moment of its life: nothing is asked of packets.
abbrev pub HonestProofsChained : Type 0
HonestProofsChained =
    (stakes : List ℕ) (genesis : ℕ → ℕ) (honest : Test) (fed : ℕ → List Arrival) → Ring stakes genesis honest fed → OneParent stakes genesis honest fed
    → (n m : ℕ) → T (honest n) → T (honest m) → (before later : List Arrival) → fed n ≡ before ++ later
    → (before' later' : List Arrival) → fed m ≡ before' ++ later'
    → (room room' s b t c size size' : ℕ) → b < 2 ^ 64 → c < 2 ^ 64
    → (write_proof (after_all (fresh stakes n (genesis n)) before) room s b).answer ≡ Ok size
    → (write_proof (after_all (fresh stakes m (genesis m)) before') room' t c).answer ≡ Ok size'
    → OnOneChain stakes genesis honest fed s b t c

-- So it is with all settled blocks, by proofs, by records (6, s, b) of honest nodes, by certificates held and by the walk.
abbrev pub SettledChained : Type 0
SettledChained =
    (stakes : List ℕ) (genesis : ℕ → ℕ) (honest : Test) (fed : ℕ → List Arrival) → Ring stakes genesis honest fed → OneParent stakes genesis honest fed
    → (s b t c : ℕ) → Settled stakes genesis honest fed s b → Settled stakes genesis honest fed t c → OnOneChain stakes genesis honest fed s b t c

-- And one slot has one settled block, at all honest nodes and at all who look on.
abbrev pub SettledOnce : Type 0
SettledOnce =
    (stakes : List ℕ) (genesis : ℕ → ℕ) (honest : Test) (fed : ℕ → List Arrival) → Ring stakes genesis honest fed → OneParent stakes genesis honest fed
    → (s b c : ℕ) → Settled stakes genesis honest fed s b → Settled stakes genesis honest fed s c → b ≡ c

-- So the final blocks that two honest nodes have marked in a slot are one.
abbrev pub FinalMarksAgree : Type 0
FinalMarksAgree =
    (stakes : List ℕ) (genesis : ℕ → ℕ) (honest : Test) (fed : ℕ → List Arrival) → Ring stakes genesis honest fed → OneParent stakes genesis honest fed
    → (n m s : ℕ) → T (honest n) → T (honest m)
    → T (not (none (row_at (life stakes genesis honest fed n) s).final)) → T (not (none (row_at (life stakes genesis honest fed m) s).final))
    → (row_at (life stakes genesis honest fed n) s).final ≡ (row_at (life stakes genesis honest fed m) s).final

-- Every certificate of kind 1, 2 or 3 in or above a final block's slot is for that block or for one that descends from it.
abbrev pub CertificatesDescend : Type 0
CertificatesDescend =
    (stakes : List ℕ) (genesis : ℕ → ℕ) (honest : Test) (fed : ℕ → List Arrival) → Ring stakes genesis honest fed → OneParent stakes genesis honest fed
    → (s b t c : ℕ) → ByCertificates stakes genesis honest fed s b → HasCertificate stakes genesis honest fed t c → s ≤ t → IsOrDescends stakes genesis honest fed s b t c

-- NO CLASH: no honest node ever makes record (8, s, b).
abbrev pub NoClash : Type 0
NoClash =
    (stakes : List ℕ) (genesis : ℕ → ℕ) (honest : Test) (fed : ℕ → List Arrival) → Ring stakes genesis honest fed → OneParent stakes genesis honest fed
    → (n s b : ℕ) → T (honest n) → ¬ T (made_in (fresh stakes n (genesis n)) (fed n) (record_of 8 s b))

-- What stands behind such a record is nowhere to be seen.
abbrev pub NoClashSeen : Type 0
NoClashSeen =
    (stakes : List ℕ) (genesis : ℕ → ℕ) (honest : Test) (fed : ℕ → List Arrival) → Ring stakes genesis honest fed → OneParent stakes genesis honest fed
    → (l : Ledger) → Observer stakes genesis honest fed l → (s b : ℕ) → ¬ ClashIn l s b

-- An honest node looks on in good faith.
abbrev pub HonestObserve : Type 0
HonestObserve =
    (stakes : List ℕ) (genesis : ℕ → ℕ) (honest : Test) (fed : ℕ → List Arrival) → Ring stakes genesis honest fed → OneParent stakes genesis honest fed
    → (n : ℕ) → T (honest n) → Observer stakes genesis honest fed (life stakes genesis honest fed n)

-- The request's own words are enough for the premise.
abbrev pub NumbersAreEnough : Type 0
NumbersAreEnough =
    (stakes : List ℕ) (genesis : ℕ → ℕ) (honest : Test) (fed : ℕ → List Arrival) → Numbered stakes genesis honest fed → OneParent stakes genesis honest fed

-- A host can check what is announced in place of what is kept.
abbrev pub AnnouncedIsEnough : Type 0
AnnouncedIsEnough =
    (stakes : List ℕ) (genesis : ℕ → ℕ) (honest : Test) (fed : ℕ → List Arrival) → Ring stakes genesis honest fed → AnnouncedOnce stakes genesis honest fed
    → OneParent stakes genesis honest fed

-- And all that arrives in place of all that is counted and kept: then every promise above holds.
abbrev pub ArrivalsAreEnough : Type 0
ArrivalsAreEnough =
    (stakes : List ℕ) (genesis : ℕ → ℕ) (honest : Test) (fed : ℕ → List Arrival) → FedRing stakes genesis honest fed → AnnouncedOnce stakes genesis honest fed
    → Ring stakes genesis honest fed × OneParent stakes genesis honest fed
