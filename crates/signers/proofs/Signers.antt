-- A word of signers takes in one node a turn, a mask one word a turn, and the two masks make the certificate. Assumes nothing.
use mathlib.Core.Path.{◌≡◌, refl, sym, ap, ◌∙◌}
use mathlib.Core.Bool.{Bool, true, false}
use mathlib.Core.List.{List}
use mathlib.Core.Logic.{⊎_elim}
use Prim.Native.Nat.{ℕ, ◌+◌, ◌-◌, ◌*◌, ◌%◌, ◌^◌, ◌<◌, ◌≤◌, min}
use native.Mathlib.Omega.{arith}
use native.Mathlib.Nat.{eq-or-lt_of_le}
use lib.Bits.{bit_or}
use lib.ListN.{length, get_or, set, length-set}
use lib.Seq.{get_or-set_same, get_or-set_other}
use Rattle.rulebook.specs.declared.CertificateKind.{CertificateKind}
use Rattle.rulebook.specs.Certificates.{Certificate}
use Rattle.rulebook.specs.Ledger.{Ledger, cell_at}
use Rattle.rulebook.specs.Packets.{mask_of, joined}
use Rattle.rulebook.specs.PaperNumbers.{number_in}
use Rattle.rulebook.specs.Writers.{voted_for}
use Rattle.rule_laws.proofs.MaskLaws.{mask_in, mask_out}
use Rattle.rule_laws.proofs.WordLaws.{joined_built}
use Rattle.stakes.proofs.Laws.{one_up}
use Rattle.signers.specs.declared.Mask.TheVariants as mask
use Rattle.signers.specs.Masks.{in_mask}

-- ---- a word

-- The node's test passed: the word with its bit is the word of one node more.
pub signer_in : (p : ℕ → Bool) (j word : ℕ) (t : Bool) → j < 64 → word ≡ mask_of p j → t ≡ p j → t ≡ true → bit_or word ((1 * 2 ^ j) % 2 ^ 64) ≡ mask_of p (j + 1)
signer_in p j word t h e f y = ap (bit_or word) (one_up j h) ∙ mask_in p j e (sym f ∙ y)

-- It did not: the word stays.
pub signer_out : (p : ℕ → Bool) (j word : ℕ) (t : Bool) → word ≡ mask_of p j → t ≡ p j → t ≡ false → word ≡ mask_of p (j + 1)
signer_out p j word t e f y = mask_out p j e (sym f ∙ y)

-- ---- a mask

-- The first i words name their nodes.
pub record Filled (p : ℕ → Bool) (nodes w : ℕ) (words : List ℕ) (i : ℕ) : Type 0 where
  pub long : length words ≡ w
  pub upto : i ≤ w
  pub each : (k : ℕ) → k < i → get_or words k 0 ≡ mask_of (λ j. p (64 * k + j)) (min 64 (nodes - 64 * k))

pub filled_none : (p : ℕ → Bool) (nodes : ℕ) (words : List ℕ) → Filled p nodes (length words) words 0
filled_none p nodes words = record { long = refl; upto = omega arith; each = λ k l. absurd (omega arith) }

pub filled_more : (p : ℕ → Bool) (nodes w : ℕ) (words : List ℕ) (i x : ℕ) → Filled p nodes w words i → i < w → x ≡ mask_of (λ j. p (64 * i + j)) (min 64 (nodes - 64 * i))
    → Filled p nodes w (set words i x) (i + 1)
filled_more p nodes w words i x f h e =
    record {
      long = length-set words i x ∙ f.long;
      upto = omega arith;
      each = λ k l. ⊎_elim
          (λ (q : k ≡ i). ap (λ (n : ℕ). get_or (set words i x) n 0) q ∙ get_or-set_same words i x 0 (omega (arith, f.long)) ∙ e
          ∙ ap (λ (n : ℕ). mask_of (λ j. p (64 * n + j)) (min 64 (nodes - 64 * n))) (sym q))
          (λ q. get_or-set_other words i k x 0 (λ z. omega arith) ∙ f.each k q)
          (eq-or-lt_of_le {n = k} {m = i} (omega arith));
    }

pub filled_done : (p : ℕ → Bool) (nodes w : ℕ) (words : List ℕ) (i : ℕ) → Filled p nodes w words i → w ≤ i → nodes ≤ 64 * w → joined words ≡ mask_of p nodes
filled_done p nodes w words i f h l = joined_built words p nodes (omega (arith, f.long)) (λ k m. f.each k (omega (arith, f.long)))

-- ---- the certificate

-- The kind's number and the two masks of all nodes make it.
pub named_all : (l : Ledger) (k : CertificateKind) (s b : ℕ) {nodes n x y : ℕ} → nodes ≡ l.count → n ≡ number_in nodes k
    → x ≡ mask_of (λ i. in_mask mask.A k b (cell_at l s i)) nodes → y ≡ mask_of (λ i. in_mask mask.B k b (cell_at l s i)) nodes
    → ◌≡◌ {A = Certificate} (record { kind = n; slot = s; block = b; maska = x; maskb = y }) (voted_for l k s b)
unfolding voted_for in_mask
named_all l k s b c n x y = rw (n, x, y, c)
