-- The list is empty exactly where its test passes.
use mathlib.Core.Path.{◌≡◌, refl, sym, ap, ◌∙◌}
use mathlib.Core.Bool.{Bool, true, false, ◌&&◌}
use mathlib.Core.List.{List, [], ◌∷◌, ◌++◌}
use Prim.Native.Nat.{ℕ, zero, suc}
use lib.ListN.{length, get_or}
use Rattle.rulebook.specs.declared.Block.{Block}
use Rattle.rulebook.specs.Tools.{whenever, all_to}
use Rattle.rulebook.specs.Weights.{last_slot}
use Rattle.rulebook.specs.Ledger.{no_block, blocks_at, all_blocks}
use Rattle.difference_lines.specs.declared.Side.TheVariants as side
use Rattle.inquest.specs.Vouched.{one_block, same_parents}
use Rattle.same_parents.specs.declared.ParentLine.{ParentLine}
use Rattle.same_parents.specs.Parents.{line_of, is_empty, lines_to, pair_lines, place_lines, block_lines, slot_lines, twice, NothingTwice}

empty_append : (xs ys : List ParentLine) → is_empty (xs ++ ys) ≡ (is_empty xs && is_empty ys)
unfolding is_empty
empty_append [] ys = refl
empty_append (x ∷ xs) ys = refl

empty_lines : (n : ℕ) (f : ℕ → List ParentLine) (t : ℕ → Bool) → ((i : ℕ) → is_empty (f i) ≡ t i) → is_empty (lines_to n f) ≡ all_to n t
unfolding lines_to is_empty all_to
empty_lines zero f t h = refl
empty_lines (suc n) f t h = empty_append (lines_to n f) (f n) ∙ (λ i. empty_lines n f t h i && h n i)

-- A test of all places is asked of each by its index, from the front.
and_assoc : (a b c : Bool) → ((a && b) && c) ≡ (a && (b && c))
and_assoc true b c = refl
and_assoc false b c = refl

and_true : (a : Bool) → (a && true) ≡ a
and_true true = refl
and_true false = refl

front : (n : ℕ) (t : ℕ → Bool) → all_to (suc n) t ≡ (t 0 && all_to n (λ i. t (suc i)))
unfolding all_to
front zero t = sym (and_true (t 0))
front (suc n) t = ap (λ (x : Bool). x && t (suc n)) (front n t) ∙ and_assoc (t 0) (all_to n (λ i. t (suc i))) (t (suc n))

by_index : (p : Block → Bool) (bs : List Block) → all_to (length bs) (λ j. p (get_or bs j no_block)) ≡ all_blocks p bs
unfolding all_blocks all_to
by_index p [] = refl
by_index p (b ∷ bs) = front (length bs) (λ j. p (get_or (b ∷ bs) j no_block)) ∙ ap (λ (x : Bool). p b && x) (by_index p bs)

empty_pair : (s : ℕ) (a b : Block) → is_empty (pair_lines s a b) ≡ one_block a b
unfolding pair_lines whenever is_empty
empty_pair s a b = go (one_block a b)
  where
    go : (t : Bool) → is_empty (whenever t (λ _. []) (line_of s a side.First ∷ line_of s b side.Second ∷ [])) ≡ t
    go true = refl
    go false = refl

empty_place : (s : ℕ) (a : Block) (bs : List Block) → is_empty (place_lines s a bs) ≡ all_blocks (one_block a) bs
unfolding place_lines
empty_place s a bs =
    empty_lines (length bs) (λ j. pair_lines s a (get_or bs j no_block)) (λ j. one_block a (get_or bs j no_block)) (λ j. empty_pair s a (get_or bs j no_block)) ∙ by_index (one_block a) bs

empty_slot : (s : ℕ) (ks bs : List Block) → is_empty (block_lines s ks bs) ≡ all_blocks (λ a. all_blocks (one_block a) bs) ks
unfolding block_lines
empty_slot s ks bs =
    empty_lines (length ks) (λ i. place_lines s (get_or ks i no_block) bs) (λ i. all_blocks (one_block (get_or ks i no_block)) bs) (λ i. empty_place s (get_or ks i no_block) bs)
    ∙ by_index (λ a. all_blocks (one_block a) bs) ks

pub nothing_twice : NothingTwice
unfolding twice slot_lines same_parents
nothing_twice l r =
    empty_lines last_slot (λ i. slot_lines l r (suc i)) (λ i. all_blocks (λ a. all_blocks (one_block a) (blocks_at r (suc i))) (blocks_at l (suc i)))
    (λ i. empty_slot (suc i) (blocks_at l (suc i)) (blocks_at r (suc i)))
