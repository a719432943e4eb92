-- What holds by one account of what honest nodes cast, or keep, holds by every account that tells of no less.
use mathlib.Core.Bool.{Bool}
use mathlib.Core.List.{List}
use Prim.Native.Nat.{ℕ}
use lib.Dec.{T}
use Rattle.rulebook.specs.declared.CertificateKind.{CertificateKind}
use Rattle.rulebook.specs.Certificates.{Certificate}
use Rattle.rulebook.specs.Ledger.{Ledger}
use Rattle.rulebook.specs.Taking.{Arrival}
use Rattle.safety.specs.Slot.{Test, Ballot}
use Rattle.safety.specs.Ring.{Signers, ballot_a, ballot_b}
use Rattle.safety.specs.Watchers.{HoldsGenuine, FedGenuine}
use Rattle.chain.specs.Chain.{Descends, itself, child, Chained, below, above}

module _ (honest : Test) (cast more : ℕ → ℕ → Ballot → Bool) (told : (n s : ℕ) (v : Ballot) → T (honest n) → T (cast n s v) → T (more n s v)) where
  pub signers_more : (k : CertificateKind) (c : Certificate) → Signers honest cast k c → Signers honest more k c
  signers_more k c g =
      record {
        signed_a = λ n h t. told n c.slot (ballot_a k c.block) h (g.signed_a n h t);
        signed_b = λ n h w t. told n c.slot (ballot_b k c.block) h (g.signed_b n h w t);
      }

  pub holds_more : (l : Ledger) → HoldsGenuine honest cast l → HoldsGenuine honest more l
  holds_more l h = record { pool = λ m s v k t. told m s v k (h.pool m s v k t); kept = λ s j t. signers_more _ _ (h.kept s j t) }

  pub fed_more : (stakes : List ℕ) (came : List Arrival) → FedGenuine honest cast stakes came → FedGenuine honest more stakes came
  fed_more stakes came f = record { mail = λ m s v k t. told m s v k (f.mail m s v k t); packets = λ c t e. signers_more _ c (f.packets c t e) }

module _ (honest : Test) (kept more : ℕ → ℕ → ℕ → ℕ → ℕ → Bool) (all : (n s b p x : ℕ) → T (honest n) → T (kept n s b p x) → T (more n s b p x)) where
  pub descends_more : (p x s b : ℕ) → Descends honest kept p x s b → Descends honest more p x s b
  descends_more p x s b itself = itself
  descends_more p x s b (child {q = q} {y = y} l d) =
      child (record { node = l.node; is_honest = l.is_honest; keeps = all l.node s b q y l.is_honest l.keeps }) (descends_more p x q y d)

  pub chained_more : (s b t c : ℕ) → Chained honest kept s b t c → Chained honest more s b t c
  chained_more s b t c (below d) = below (descends_more s b t c d)
  chained_more s b t c (above d) = above (descends_more t c s b d)
