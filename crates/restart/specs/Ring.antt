-- RINGS IN WHICH HONEST FIRMS DIE and start again as often as they like: what other firms have of them is what was sent.
use Rattle.std.specs.Prelude.{◌≡◌, Bool, List, [], ◌∷◌, ◌++◌, ℕ, T, length, Ok}
use Rattle.rulebook.specs.Certificates.{Certificate}
use Rattle.rulebook.specs.PaperNumbers.{kind_in}
use Rattle.rulebook.specs.Ledger.{is_kept}
use Rattle.rulebook.specs.Pool.{place_kind}
use Rattle.rulebook.specs.Rules.{record_of}
use Rattle.rulebook.specs.Checker.{judge, check_certificate, check_proof}
use Rattle.rulebook.specs.WellFormed.{kept_in}
use Rattle.safety.specs.Slot.{Test, Ballot}
use Rattle.safety.specs.Ballots.{record_for, among}
use Rattle.safety.specs.Ring.{brought_by, HandedBy, FewOthers, Signers, Genuine, GenuinePacket, Agrees}
use Rattle.answers.specs.Face.{Checked}
use Rattle.seen.specs.Ring as seen
use Rattle.seen.specs.Ring.{Lives, counted_ballot, kept_by, Moment}
use Rattle.seen.specs.Chain.{OneParent, OnOneChain}
use Rattle.calls.specs.Life.{Life}
use Rattle.restart.specs.Deeds.{Desk, Deed, after_deeds, dies_in, opened, Host}

-- What each firm's host has.
abbrev pub Desks : Type 0
Desks = ℕ → Desk

-- The lives in memory.
abbrev pub lives_of : Desks → Lives
lives_of desks n = (desks n).living

-- Firm n sent the ballot for slot s.
abbrev pub sent_ballot : Desks → ℕ → ℕ → Ballot → Bool
sent_ballot desks n s v = among (desks n).sent (record_for s v)

module _ (stakes : List ℕ) (genesis : ℕ → ℕ) (honest : Test) (desks : Desks) where
  -- THE PREMISE of demand 3, over what was sent: all other stake is strictly under one fifth; each honest firm has a host in good order; an honest firm's
  -- words count another's vote only where the other sent it; and every honest firm among the signers of a certificate that they keep sent that vote.
  pub record DyingRing : Type 0 where
    pub few : FewOthers stakes honest
    pub hosts : (n : ℕ) → T (honest n) → Host stakes n (genesis n) (desks n)
    pub counted : (n m s : ℕ) (v : Ballot) → T (honest n) → T (honest m) → ¬ (m ≡ n) → T (counted_ballot (lives_of desks) n m s v) → T (sent_ballot desks m s v)
    pub kept : (n s j : ℕ) → T (honest n) → T (is_kept (kept_by (lives_of desks) n s j))
        → Signers honest (sent_ballot desks) (place_kind j) (kept_in s (kept_by (lives_of desks) n s j))

  -- The same with the last two parts over what arrives, as a host can check it.
  pub record FedDyingRing : Type 0 where
    pub few : FewOthers stakes honest
    pub hosts : (n : ℕ) → T (honest n) → Host stakes n (genesis n) (desks n)
    pub mail : (n m s : ℕ) (v : Ballot) → T (honest n) → T (honest m) → ¬ (m ≡ n) → T (brought_by (desks n).living.came s m v) → T (sent_ballot desks m s v)
    pub packets : (n : ℕ) (c : Certificate) → T (honest n) → HandedBy (desks n).living.came c → judge stakes c ≡ Ok tt → Genuine (length stakes) honest (sent_ballot desks) c

-- It is a ring of the lives in memory: so every promise over rings of lives holds in it.
abbrev pub DyingIsRing : Type 0
DyingIsRing = (stakes : List ℕ) (genesis : ℕ → ℕ) (honest : Test) (desks : Desks) → DyingRing stakes genesis honest desks → seen.Ring stakes genesis honest (lives_of desks)

-- And where the host checks what arrives it is a ring of what arrived at them.
abbrev pub FedDyingIsFed : Type 0
FedDyingIsFed =
    (stakes : List ℕ) (genesis : ℕ → ℕ) (honest : Test) (desks : Desks) → FedDyingRing stakes genesis honest desks → seen.FedRing stakes genesis honest (lives_of desks)

-- Every record that was ever stored is a moment of the one life: so what is promised of certificates and proofs that are written at a moment holds of those
-- that a host writes off what it stored, and hands out.
abbrev pub StoredIsMoment : Type 0
StoredIsMoment =
    (stakes : List ℕ) (genesis : ℕ → ℕ) (honest : Test) (desks : Desks) (ring : DyingRing stakes genesis honest desks) (n : ℕ) (h : T (honest n)) (xs ys : List Deed)
    → (ring.hosts n h).deeds ≡ xs ++ ys → Moment stakes genesis honest (lives_of desks) n (after_deeds (opened (ring.hosts n h).words) xs).stored

-- The premise can be met, deaths among the deeds: of every ring of lives there are hosts in good order that have those lives in memory, have died, and
-- have sent all that was told.
abbrev pub DyingMet : Type 0
DyingMet =
    (stakes : List ℕ) (genesis : ℕ → ℕ) (honest : Test) (lives : Lives) → ((n : ℕ) → T (honest n) → Life stakes n (genesis n) (lives n))
    → seen.Ring stakes genesis honest lives
    → (desks : Desks) × (ring : DyingRing stakes genesis honest desks)
    × ((n : ℕ) (h : T (honest n)) → ((desks n).living ≡ lives n) × ((desks n).sent ≡ (lives n).told) × T (dies_in (ring.hosts n h).deeds))

-- DEMAND 3: once a proof for a block in a slot is accepted, whose honest signers sent what it counts, no such certificate that is accepted in that slot is of
-- kind 4, or of kind 1, 2 or 3 for another block.
abbrev pub SafeThroughDeaths : Type 0
SafeThroughDeaths =
    (stakes : List ℕ) (genesis : ℕ → ℕ) (honest : Test) (desks : Desks) → DyingRing stakes genesis honest desks
    → (proof packet : List ℕ) (kind slot block signers weight missing kind' block' signers' weight' missing' : ℕ)
    → GenuinePacket (length stakes) honest (sent_ballot desks) proof → GenuinePacket (length stakes) honest (sent_ballot desks) packet
    → Checked (length stakes) (check_proof stakes proof) 0 (kind ∷ slot ∷ block ∷ signers ∷ weight ∷ []) missing
    → Checked (length stakes) (check_certificate stakes packet) 0 (kind' ∷ slot ∷ block' ∷ signers' ∷ weight' ∷ []) missing'
    → Agrees (kind_in (length stakes) kind') block' block

-- A block is settled: a check answers 0 to a proof for it whose honest signers sent what it counts, or an honest firm's host sent (6, s, b) to its house.
pub data SettledOut (stakes : List ℕ) (honest : Test) (desks : Desks) (s b : ℕ) : Type 0 where
  proved : (proof : List ℕ) (kind signers weight missing : ℕ) → GenuinePacket (length stakes) honest (sent_ballot desks) proof
      → Checked (length stakes) (check_proof stakes proof) 0 (kind ∷ s ∷ b ∷ signers ∷ weight ∷ []) missing → SettledOut stakes honest desks s b
  reported : (n : ℕ) → T (honest n) → T (among (desks n).sent (record_of 6 s b)) → SettledOut stakes honest desks s b

-- ONE CHAIN: of any two settled blocks one is the other or its ancestor, where no block of a slot is kept with two parents;
abbrev pub ChainedThroughDeaths : Type 0
ChainedThroughDeaths =
    (stakes : List ℕ) (genesis : ℕ → ℕ) (honest : Test) (desks : Desks) → DyingRing stakes genesis honest desks → OneParent honest (lives_of desks)
    → (s b t c : ℕ) → SettledOut stakes honest desks s b → SettledOut stakes honest desks t c → OnOneChain honest (lives_of desks) s b t c

-- and one slot has one settled block.
abbrev pub SettledOnceThroughDeaths : Type 0
SettledOnceThroughDeaths =
    (stakes : List ℕ) (genesis : ℕ → ℕ) (honest : Test) (desks : Desks) → DyingRing stakes genesis honest desks → OneParent honest (lives_of desks)
    → (s b c : ℕ) → SettledOut stakes honest desks s b → SettledOut stakes honest desks s c → b ≡ c
