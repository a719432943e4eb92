-- What the tests say, and rings that pass them.
use mathlib.Core.Path.{◌≡◌, sym, ◌∙◌}
use mathlib.Core.Bool.{Bool, not, ◌&&◌, ◌||◌}
use mathlib.Core.List.{List, [], ◌∷◌}
use Prim.Native.Nat.{ℕ, zero, suc, ◌≤◌, ◌<◌}
use native.Mathlib.Omega.{arith}
use lib.Dec.{T, eqb, eqb→eq, ltb→lt, T_not}
use lib.ListN.{length}
use Rattle.rulebook.specs.declared.Block.{Block}
use Rattle.rulebook.specs.declared.Input.TheVariants as input
use Rattle.rulebook.specs.Tools.{all_to}
use Rattle.rulebook.specs.Weights.{stakes_fit}
use Rattle.rulebook.specs.Ledger.{fresh, none, is_free, has_number, is_block}
use Rattle.rulebook.specs.Rules.{Record}
use Rattle.rulebook.specs.Taking.{Arrival, of_input, of_packet}
use Rattle.rule_laws.proofs.ToolLaws.{all_at}
use Rattle.safety.specs.Slot.{Test}
use Rattle.safety.specs.Ring.{announced_by, FewOthers, Ring, FedRing}
use Rattle.safety.specs.Examples.{told_in, mail_test, packets_test}
use Rattle.safety.proofs.Tests.{T_true, true_t, and_t, or_t}
use Rattle.safety.proofs.Promises.{mail_is_enough}
use Rattle.safety.proofs.Examples.{start_good, mail_ok, packets_ok}
use Rattle.chain.specs.OneChain.{AnnouncedOnce}
use Rattle.chain_histories.specs.Tests.{blocks_test, as_in_book}
use Rattle.chain_histories.specs.Rings.{honest_two}

-- A test that holds of every announced block holds of one that is announced.
block_tested : (p : ℕ → ℕ → ℕ → ℕ → Bool) (z : ℕ) (k : Block) (s b q x : ℕ) → T (eqb z s && is_block b q x k) → T (p z k.number k.parentslot.0 k.parent) → T (p s b q x)
unfolding is_block
block_tested p z k s b q x t u =
    let a = and_t (eqb z s) (is_block b q x k) t in
    let c = and_t (not (is_free k)) (has_number b k && (eqb k.parentslot.0 q && eqb k.parent x)) a.1 in
    let d = and_t (has_number b k) (eqb k.parentslot.0 q && eqb k.parent x) c.1 in
    let e = and_t (eqb k.parentslot.0 q) (eqb k.parent x) d.1 in
    rw (eqb→eq z s a.0, eqb→eq k.number b d.0, eqb→eq k.parentslot.0 q e.0, eqb→eq k.parent x e.1) at u

pub blocks_tested : (p : ℕ → ℕ → ℕ → ℕ → Bool) (is : List Arrival) (s b q x : ℕ) → T (announced_by is s b q x) → T (blocks_test p is) → T (p s b q x)
unfolding announced_by blocks_test
blocks_tested p [] s b q x t u = absurd t
blocks_tested p (of_input (input.Vote w) ∷ is) s b q x t u = blocks_tested p is s b q x t u
blocks_tested p (of_input (input.Block z k) ∷ is) s b q x t u =
    let v = and_t (p z.0 k.number k.parentslot.0 k.parent) (blocks_test p is) u in
    or_t (eqb z.0 s && is_block b q x k) (announced_by is s b q x) t
    (λ w. block_tested p z.0 k s b q x w v.0) (λ w. blocks_tested p is s b q x w v.1)
blocks_tested p (of_input (input.Timeout z) ∷ is) s b q x t u = blocks_tested p is s b q x t u
blocks_tested p (of_input input.Look ∷ is) s b q x t u = blocks_tested p is s b q x t u
blocks_tested p (of_packet bytes ∷ is) s b q x t u = blocks_tested p is s b q x t u

-- The same at every honest node, where those are below a bound.
pub everywhere_tested : (p : ℕ → ℕ → ℕ → ℕ → Bool) (bound : ℕ) (honest : Test) (fed : ℕ → List Arrival) → ((n : ℕ) → T (honest n) → n < bound)
    → T (all_to bound (λ n. not (honest n) || blocks_test p (fed n))) → (n s b q x : ℕ) → T (honest n) → T (announced_by (fed n) s b q x) → T (p s b q x)
everywhere_tested p bound honest fed within t n s b q x h u =
    or_t (not (honest n)) (blocks_test p (fed n)) (true_t _ (all_at bound n (λ n. not (honest n) || blocks_test p (fed n)) (T_true _ t) (within n h)))
    (λ z. absurd (T_not (honest n) z h)) (λ z. blocks_tested p (fed n) s b q x u z)

-- One book has one parent for a slot and a number.
pub same_book : (f g : ℕ → ℕ → ℕ) (s b p x q y : ℕ) → T (as_in_book f g s b p x) → T (as_in_book f g s b q y) → (p ≡ q) × (x ≡ y)
unfolding as_in_book
same_book f g s b p x q y t u =
    let a = and_t (eqb (f s b) p) (eqb (g s b) x) t in
    let c = and_t (eqb (f s b) q) (eqb (g s b) y) u in
    (sym (eqb→eq (f s b) p a.0) ∙ eqb→eq (f s b) q c.0, sym (eqb→eq (g s b) x a.1) ∙ eqb→eq (g s b) y c.1)

-- Blocks that all are as in one book are announced with one parent.
pub in_one_book : (f g : ℕ → ℕ → ℕ) (stakes : List ℕ) (genesis : ℕ → ℕ) (bound : ℕ) (honest : Test) (fed : ℕ → List Arrival) → ((n : ℕ) → T (honest n) → n < bound)
    → T (all_to bound (λ n. not (honest n) || blocks_test (as_in_book f g) (fed n))) → AnnouncedOnce stakes genesis honest fed
in_one_book f g stakes genesis bound honest fed within t n m s b p x q y h k u w =
    same_book f g s b p x q y
    (everywhere_tested (as_in_book f g) bound honest fed within t n s b p x h u) (everywhere_tested (as_in_book f g) bound honest fed within t m s b q y k w)

-- A ring, tested: honest nodes are below a bound, their records are known, and mail and packets pass the tests.
module _ (ws : List ℕ) (g : ℕ → ℕ) (bound : ℕ) (honest : Test) (fed : ℕ → List Arrival) (told : ℕ → List Record)
    (few : FewOthers ws honest) (fits : T (stakes_fit ws (length ws))) (within : (n : ℕ) → T (honest n) → n < bound) (inside : bound ≤ length ws)
    (numbered : (n : ℕ) → T (not (none (g n))))
    (lives : (n : ℕ) → T (honest n) → told_in (fresh ws n (g n)) (fed n) ≡ told n)
    (mail : T (all_to bound (λ n. not (honest n) || mail_test told honest n (fed n))))
    (packets : T (all_to bound (λ n. not (honest n) || packets_test told honest (length ws) bound (fed n)))) where
  pub tested_fed : FedRing ws g honest fed
  tested_fed =
      record {
        few = few;
        started = λ n h. start_good ws n (g n) fits (omega (arith, within n h, inside)) (numbered n);
        mail = mail_ok ws g bound honest fed told within lives mail;
        packets = λ n c h d j. packets_ok ws g bound honest fed told within lives packets n c h d;
      }

  pub tested_ring : Ring ws g honest fed
  tested_ring = mail_is_enough ws g honest fed tested_fed

-- ---- nodes 0 and 1

pub two_within : (n : ℕ) → T (honest_two n) → n < 2
two_within n h = ltb→lt n 2 h

-- What holds of nodes 0 and 1 holds of both.
pub of_both : (X : ℕ → Type 0) → X 0 → X 1 → (n : ℕ) → T (honest_two n) → X n
of_both X x y zero h = x
of_both X x y (suc zero) h = y
of_both X x y (suc (suc n)) h = absurd (omega (arith, ltb→lt (suc (suc n)) 2 h))
