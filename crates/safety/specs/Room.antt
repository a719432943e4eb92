-- While less than a fifth lies there is room for every genuine certificate: what of one slot can be genuine, and that 8 is never answered.
use Rattle.std.specs.Prelude.{◌≡◌, List, ◌++◌, ℕ, ◌<◌, length, T, Ok, Err}
use Rattle.rulebook.specs.declared.CertificateKind.{CertificateKind}
use Rattle.rulebook.specs.declared.CertificateKind.TheVariants as certificate
use Rattle.rulebook.specs.declared.Refusal.TheVariants as refusal
use Rattle.rulebook.specs.Certificates.{Certificate}
use Rattle.rulebook.specs.PaperNumbers.{kind_in}
use Rattle.rulebook.specs.Ledger.{fresh}
use Rattle.rulebook.specs.Checker.{judge}
use Rattle.rulebook.specs.Taking.{Arrival}
use Rattle.rulebook.specs.WellFormed.{take_certificate}
use Rattle.safety.specs.Slot.{Test}
use Rattle.safety.specs.Ring.{after_all, cast_by, Ring, Genuine, GenuinePacket}

module _ (stakes : List ℕ) (genesis : ℕ → ℕ) (honest : Test) (fed : ℕ → List Arrival) where
  -- A genuine certificate of kind k for slot s that the checker accepts.
  pub record Stands (k : CertificateKind) (s : ℕ) (c : Certificate) : Type 0 where
    pub genuine : Genuine (length stakes) honest (cast_by stakes genesis honest fed) c
    pub accepted : judge stakes c ≡ Ok tt
    pub kind : kind_in (length stakes) c.kind ≡ k
    pub slot : c.slot ≡ s

-- Two of kind 1, or two of kind 2, are for one block: they share an honest node's initial vote.
abbrev pub OneOfKindOne : Type 0
OneOfKindOne =
    (stakes : List ℕ) (genesis : ℕ → ℕ) (honest : Test) (fed : ℕ → List Arrival) → Ring stakes genesis honest fed
    → (s : ℕ) (c d : Certificate) → Stands stakes genesis honest fed certificate.FastFinal s c → Stands stakes genesis honest fed certificate.FastFinal s d → c.block ≡ d.block

abbrev pub OneOfKindTwo : Type 0
OneOfKindTwo =
    (stakes : List ℕ) (genesis : ℕ → ℕ) (honest : Test) (fed : ℕ → List Arrival) → Ring stakes genesis honest fed
    → (s : ℕ) (c d : Certificate) → Stands stakes genesis honest fed certificate.Notar s c → Stands stakes genesis honest fed certificate.Notar s d → c.block ≡ d.block

-- Of kind 3 there are no eight for different blocks: an honest node stands behind at most four.
abbrev pub SevenOfKindThree : Type 0
SevenOfKindThree =
    (stakes : List ℕ) (genesis : ℕ → ℕ) (honest : Test) (fed : ℕ → List Arrival) → Ring stakes genesis honest fed
    → (s : ℕ) (cs : ℕ → Certificate) → ((i : ℕ) → i < 8 → Stands stakes genesis honest fed certificate.NotarFallback s (cs i))
    → ((i j : ℕ) → i < 8 → j < 8 → (cs i).block ≡ (cs j).block → i ≡ j) → ⊥

-- So a genuine certificate is never answered 8 at an honest node that keeps genuine ones only, at any moment of its life.
abbrev pub NeverEight : Type 0
NeverEight =
    (stakes : List ℕ) (genesis : ℕ → ℕ) (honest : Test) (fed : ℕ → List Arrival) → Ring stakes genesis honest fed
    → (n : ℕ) → T (honest n) → (before later : List Arrival) → fed n ≡ before ++ later
    → (room : ℕ) (packet : List ℕ) → GenuinePacket (length stakes) honest (cast_by stakes genesis honest fed) packet
    → ¬ ((take_certificate (after_all (fresh stakes n (genesis n)) before) room packet).answer ≡ Err refusal.OtherStands)
