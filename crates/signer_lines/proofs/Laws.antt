-- The lines of one vote and of one certificate's masks, by what the code has read. Assumes nothing.
use mathlib.Core.Path.{◌≡◌, refl, sym, ap, ap₂, ◌∙◌}
use mathlib.Core.Bool.{Bool, true, false, not, ◌&&◌, ◌||◌}
use mathlib.Core.List.{List, ◌++◌}
use Prim.Native.Nat.{ℕ, ◌+◌, ◌/◌, ◌%◌, ◌^◌, ◌≤◌}
use native.Mathlib.Omega.{arith}
use lib.ListN.{length, get_or}
use lib.Bits.{bit_and, and_mask}
use lib.Dec.{eqb}
use Rattle.rulebook.specs.declared.Cell.{Cell}
use Rattle.rulebook.specs.declared.CertificateKind.{CertificateKind}
use Rattle.rulebook.specs.declared.CertificateKind.TheVariants as certificate
use Rattle.rulebook.specs.declared.VoteKind.{VoteKind}
use Rattle.rulebook.specs.Certificates.{Certificate}
use Rattle.rulebook.specs.PaperNumbers.{certificate_number}
use Rattle.rulebook.specs.Tools.{whenever}
use Rattle.rulebook.specs.Ledger.{none}
use Rattle.rulebook.specs.Packets.{bit, joined}
use Rattle.rulebook.specs.Checker.{without_b}
use Rattle.rule_laws.proofs.ToolLaws.{by_test, given_on, given_off}
use Rattle.rule_laws.proofs.WordLaws.{Words, node_bit}
use Rattle.safety.specs.Ballots.{has, kind_of, block_of}
use Rattle.safety.specs.Ring.{ballot_a, ballot_b}
use Rattle.inquest.specs.declared.Line.{Line}
use Rattle.inquest.specs.Stands.{none_or}
use Rattle.inquest.specs.Lists.{line_of, unless, cell_lacks, signer_lacks}
use Rattle.inquest_lines.specs.Lent.{Laid}
use Rattle.inquest_lines.proofs.Laws.{unless_most, more_most}
use Rattle.signer_lines.specs.declared.Signer.{Signer}
use Rattle.signer_lines.specs.Signers.{ballot_of, counted_lacks, lacks_a, lacks_b, lacks}

-- A node's bit, by its word.
pub word_named : (ws : List ℕ) → Words ws → (n w : ℕ) → w ≡ get_or ws (n / 64) 0 → eqb (bit_and (w / 2 ^ (n % 64)) 1) 1 ≡ bit (joined ws) n
unfolding bit
word_named ws h n w e =
    ap (λ (x : ℕ). eqb (bit_and (x / 2 ^ (n % 64)) 1) 1) e ∙ ap (λ (x : ℕ). eqb x 1) (and_mask (get_or ws (n / 64) 0 / 2 ^ (n % 64)) 1) ∙ sym (node_bit ws h n)

-- ---- one line at most

pub one_most : {list left : List ℕ} {at next : ℕ} (t : Bool) (x : Line) → Laid list at (unless t x) left next → next ≤ at + 1
one_most t x w = omega (arith, w.many, unless_most t x)

-- No vote passes.
pub none_first : (w : ℕ) (t : Bool) → (eqb w 0 || t) ≡ none_or w (λ _. t)
unfolding none_or
none_first w t =
    by_test (eqb w 0) (λ e. ap (λ (z : Bool). z || t) e ∙ sym (given_off (not (none w)) true (λ _. t) (ap not e)))
    (λ e. ap (λ (z : Bool). z || t) e ∙ sym (given_on (not (none w)) true (λ _. t) (ap not e)))

-- ---- a certificate

-- A mask that does not name the firm passes.
pub not_or : (a t : Bool) → (not a || t) ≡ whenever a (λ _. t) true
unfolding whenever
not_or true t = refl
not_or false t = refl

module _ (x : Signer) (d : Cell) where
  -- By mask A.
  pub counted_a : {k : VoteKind} → k ≡ kind_of (ballot_a x.kind 0) → counted_lacks x d x.a k ≡ lacks_a x d
  unfolding lacks_a
  counted_a e = ap (counted_lacks x d x.a) e ∙ by_kind x.kind
    where
      by_kind : (k : CertificateKind) → unless (whenever x.a (λ _. has d (ballot_of (kind_of (ballot_a k 0)) x.block)) true)
          (record { slot = x.slot; node = x.node; kind = kind_of (ballot_a k 0); block = block_of (ballot_of (kind_of (ballot_a k 0)) x.block); source = certificate_number k })
          ≡ unless (whenever x.a (λ _. has d (ballot_a k x.block)) true) (line_of x.slot.0 x.node.0 (ballot_a k x.block) (certificate_number k))
      by_kind certificate.FastFinal = refl
      by_kind certificate.Notar = refl
      by_kind certificate.NotarFallback = refl
      by_kind certificate.Skip = refl
      by_kind certificate.Final = refl
      by_kind certificate.Other = refl

  -- By mask B.
  pub counted_b : {z : Bool} {k : VoteKind} → z ≡ not (without_b x.kind) → k ≡ kind_of (ballot_b x.kind 0) → counted_lacks x d (z && x.b) k ≡ lacks_b x d
  unfolding lacks_b
  counted_b f e = ap₂ (λ (y : Bool). counted_lacks x d (y && x.b)) f e ∙ by_kind x.kind
    where
      by_kind : (k : CertificateKind) → unless (whenever (not (without_b k) && x.b) (λ _. has d (ballot_of (kind_of (ballot_b k 0)) x.block)) true)
          (record { slot = x.slot; node = x.node; kind = kind_of (ballot_b k 0); block = block_of (ballot_of (kind_of (ballot_b k 0)) x.block); source = certificate_number k })
          ≡ unless (whenever (not (without_b k) && x.b) (λ _. has d (ballot_b k x.block)) true) (line_of x.slot.0 x.node.0 (ballot_b k x.block) (certificate_number k))
      by_kind certificate.FastFinal = refl
      by_kind certificate.Notar = refl
      by_kind certificate.NotarFallback = refl
      by_kind certificate.Skip = refl
      by_kind certificate.Final = refl
      by_kind certificate.Other = refl

-- The certificate's lines are those of the definition, whatever the words in which it was read.
pub signer_lacks_lem : (x : Signer) (d : Cell) (k : CertificateKind) (c : Certificate) (m : ℕ) → x.kind ≡ k → x.slot.0 ≡ c.slot → x.node.0 ≡ m → x.block ≡ c.block
    → x.a ≡ bit c.maska m → x.b ≡ bit c.maskb m → lacks x d ≡ signer_lacks k c m d
unfolding lacks_a lacks_b signer_lacks
signer_lacks_lem x d k c m ek es em eb ea ebb =
    λ i. unless (whenever (ea i) (λ _. has d (ballot_a (ek i) (eb i))) true) (line_of (es i) (em i) (ballot_a (ek i) (eb i)) (certificate_number (ek i)))
    ++ unless (whenever (not (without_b (ek i)) && ebb i) (λ _. has d (ballot_b (ek i) (eb i))) true) (line_of (es i) (em i) (ballot_b (ek i) (eb i)) (certificate_number (ek i)))

pub signer_most : (k : CertificateKind) (c : Certificate) (m : ℕ) (d : Cell) → length (signer_lacks k c m d) ≤ 2
unfolding signer_lacks
signer_most k c m d = more_most 1 _ _ _ (unless_most _ _)

-- ---- a cell

pub cell_most : (s m : ℕ) (c d : Cell) → length (cell_lacks s m c d) ≤ 7
unfolding cell_lacks
cell_most s m c d =
    more_most 6 _ _ _ (more_most 5 _ _ _ (more_most 4 _ _ _ (more_most 3 _ _ _ (more_most 2 _ _ _ (more_most 1 _ _ _ (unless_most _ _))))))
