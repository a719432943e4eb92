-- Tests that computed histories are put to.
use Rattle.std.specs.Prelude.{Bool, true, ◌&&◌, List, [], ◌∷◌, ℕ, eqb}
use Rattle.rulebook.specs.declared.Input.TheVariants as input
use Rattle.rulebook.specs.Taking.{Arrival, of_input, of_packet}

-- The test of slot, number, parent's slot and parent's number holds of every announced block.
unfoldable pub blocks_test : (ℕ → ℕ → ℕ → ℕ → Bool) → List Arrival → Bool
blocks_test p [] = true
blocks_test p (of_input (input.Vote v) ∷ is) = blocks_test p is
blocks_test p (of_input (input.Block s k) ∷ is) = p s.0 k.number k.parentslot.0 k.parent && blocks_test p is
blocks_test p (of_input (input.Timeout s) ∷ is) = blocks_test p is
blocks_test p (of_input input.Look ∷ is) = blocks_test p is
blocks_test p (of_packet bytes ∷ is) = blocks_test p is

-- The block's parent is the one that a book has for its slot and number.
unfoldable pub as_in_book : (ℕ → ℕ → ℕ) → (ℕ → ℕ → ℕ) → ℕ → ℕ → ℕ → ℕ → Bool
as_in_book slots parents s b q x = eqb (slots s b) q && eqb (parents s b) x
