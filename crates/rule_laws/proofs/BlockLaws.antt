-- Laws of kept blocks: what a block in the first free place leaves. Assumes nothing.
use mathlib.Core.Path.{◌≡◌, refl, ap}
use mathlib.Core.Bool.{Bool, true, false, not, ◌&&◌, ◌||◌}
use mathlib.Core.List.{List, [], ◌∷◌}
use Prim.Native.Nat.{ℕ, suc}
use lib.ListN.{length}
use lib.Dec.{eqb}
use borrow.Author.Tests.{not-true, eq-eqb}
use Rattle.rulebook.specs.declared.Block.{Block}
use Rattle.rulebook.specs.Tools.{choose}
use Rattle.rulebook.specs.Ledger.{none, some_block, all_blocks, is_free, has_number, is_block, fill_block}
use Rattle.rulebook.specs.Rules.{find_block}
use Rattle.rulebook.specs.WellFormed.{in_order, blocks_apart}
use Rattle.rule_laws.proofs.ToolLaws.{and_both, both_and, or_left, or_right, or_cases, or_none, true_not_false}

-- The places stay as many.
pub fill_length : (k : Block) (bs : List Block) → length (fill_block k bs) ≡ length bs
unfolding fill_block choose
fill_length k [] = refl
fill_length k (c ∷ cs) = go (is_free c) (fill_length k cs)
  where
    go : (z : Bool) → length (fill_block k cs) ≡ length cs → length (choose z (k ∷ cs) (c ∷ fill_block k cs)) ≡ suc (length cs)
    go true e = refl
    go false e = ap suc e

-- A test that follows from another holds of every block of which that holds.
pub all_mono : (p q : Block → Bool) (ks : List Block) → ((k : Block) → p k ≡ true → q k ≡ true) → all_blocks p ks ≡ true → all_blocks q ks ≡ true
unfolding all_blocks
all_mono p q [] f e = refl
all_mono p q (k ∷ ks) f e =
    let a = and_both (p k) (all_blocks p ks) e in both_and (q k) (all_blocks q ks) (f k a.0) (all_mono p q ks f a.1)

-- What holds of all and of the new one holds of all afterwards.
pub fill_all : (p : Block → Bool) (b : Block) (ks : List Block) → p b ≡ true → all_blocks p ks ≡ true → all_blocks p (fill_block b ks) ≡ true
unfolding all_blocks fill_block choose
fill_all p b [] h e = refl
fill_all p b (k ∷ ks) h e = go (is_free k) (and_both (p k) (all_blocks p ks) e) (fill_all p b ks h)
  where
    go : (z : Bool) → (p k ≡ true) × (all_blocks p ks ≡ true) → (all_blocks p ks ≡ true → all_blocks p (fill_block b ks) ≡ true)
        → all_blocks p (choose z (b ∷ ks) (k ∷ fill_block b ks)) ≡ true
    go true a ih = both_and (p b) (all_blocks p ks) h a.1
    go false a ih = both_and (p k) (all_blocks p (fill_block b ks)) a.0 (ih a.1)

-- Behind an empty place all are empty, and so in order behind any.
empty_order : (x c y : ℕ) → none c ≡ true → in_order c y ≡ true → in_order x y ≡ true
unfolding in_order
empty_order x c y t e =
    or_cases (none y) (not (none c) && not (eqb c y)) e (λ q. or_left (none y) (not (none x) && not (eqb x y)) q)
    (λ q. true_not_false (none c) t (not-true (none c) (and_both (not (none c)) (not (eqb c y)) q).0))

-- Two numbers that differ are in order.
apart_order : (x y : ℕ) → none x ≡ false → eqb x y ≡ false → in_order x y ≡ true
unfolding in_order
apart_order x y a b = or_right (none y) (not (none x) && not (eqb x y)) (both_and (not (none x)) (not (eqb x y)) (ap not a) (ap not b))

-- A new number in the first free place: still from the front, and none twice.
pub fill_apart : (b : Block) (ks : List Block) → none b.number ≡ false → some_block (has_number b.number) ks ≡ false
    → blocks_apart ks ≡ true → blocks_apart (fill_block b ks) ≡ true
unfolding blocks_apart fill_block choose some_block
fill_apart b [] m d e = refl
fill_apart b (k ∷ ks) m d e =
    go (is_free k) refl (or_none (has_number b.number k) (some_block (has_number b.number) ks) d)
    (and_both (all_blocks (λ j. in_order k.number j.number) ks) (blocks_apart ks) e) (fill_apart b ks m)
  where
    go : (z : Bool) → is_free k ≡ z → (has_number b.number k ≡ false) × (some_block (has_number b.number) ks ≡ false)
        → (all_blocks (λ j. in_order k.number j.number) ks ≡ true) × (blocks_apart ks ≡ true)
        → (some_block (has_number b.number) ks ≡ false → blocks_apart ks ≡ true → blocks_apart (fill_block b ks) ≡ true)
        → blocks_apart (choose z (b ∷ ks) (k ∷ fill_block b ks)) ≡ true
    go true t f a ih =
        both_and (all_blocks (λ j. in_order b.number j.number) ks) (blocks_apart ks)
        (all_mono (λ j. in_order k.number j.number) (λ j. in_order b.number j.number) ks (λ j q. empty_order b.number k.number j.number t q) a.0) a.1
    go false t f a ih =
        both_and (all_blocks (λ j. in_order k.number j.number) (fill_block b ks)) (blocks_apart (fill_block b ks))
        (fill_all (λ j. in_order k.number j.number) b ks (apart_order k.number b.number t f.0) a.0) (ih f.1 a.1)

-- A block that is found by its number, its parent not in slot 0, is one of the list.
pub find_all : (p : Block → Bool) (b : ℕ) (ks : List Block) → all_blocks p ks ≡ true → none (find_block b ks).parentslot.0 ≡ false
    → (is_free (find_block b ks) ≡ false) × (p (find_block b ks) ≡ true)
unfolding all_blocks find_block choose
find_all p b [] e t = true_not_false (none 0) refl t
find_all p b (k ∷ ks) e t = go (not (is_free k) && has_number b k) refl (and_both (p k) (all_blocks p ks) e) (find_all p b ks) t
  where
    go : (z : Bool) → (not (is_free k) && has_number b k) ≡ z → (p k ≡ true) × (all_blocks p ks ≡ true)
        → (all_blocks p ks ≡ true → none (find_block b ks).parentslot.0 ≡ false → (is_free (find_block b ks) ≡ false) × (p (find_block b ks) ≡ true))
        → none (choose z k (find_block b ks)).parentslot.0 ≡ false → (is_free (choose z k (find_block b ks)) ≡ false) × (p (choose z k (find_block b ks)) ≡ true)
    go true q a ih u = (not-true (is_free k) (and_both (not (is_free k)) (has_number b k) q).0, a.0)
    go false q a ih u = ih a.1 u

-- It is kept with its parent.
pub find_kept_lem : (b : ℕ) (ks : List Block) → none (find_block b ks).parentslot.0 ≡ false
    → some_block (is_block b (find_block b ks).parentslot.0 (find_block b ks).parent) ks ≡ true
unfolding some_block find_block is_block choose
find_kept_lem b [] t = true_not_false (none 0) refl t
find_kept_lem b (k ∷ ks) t = go (not (is_free k) && has_number b k) refl (find_kept_lem b ks) t
  where
    go : (z : Bool) → (not (is_free k) && has_number b k) ≡ z
        → (none (find_block b ks).parentslot.0 ≡ false → some_block (is_block b (find_block b ks).parentslot.0 (find_block b ks).parent) ks ≡ true)
        → none (choose z k (find_block b ks)).parentslot.0 ≡ false
        → (is_block b (choose z k (find_block b ks)).parentslot.0 (choose z k (find_block b ks)).parent k
        || some_block (is_block b (choose z k (find_block b ks)).parentslot.0 (choose z k (find_block b ks)).parent) ks) ≡ true
    go true q ih u =
        let a = and_both (not (is_free k)) (has_number b k) q in
        or_left (is_block b k.parentslot.0 k.parent k) (some_block (is_block b k.parentslot.0 k.parent) ks)
        (both_and (not (is_free k)) _ a.0 (both_and (has_number b k) _ a.1 (both_and (eqb k.parentslot.0 k.parentslot.0) _ (eq-eqb k.parentslot.0 k.parentslot.0 refl) (eq-eqb k.parent k.parent refl))))
    go false q ih u = or_right (is_block b (find_block b ks).parentslot.0 (find_block b ks).parent k) _ (ih u)
