-- Computed cases of the inputs that a host's numbers stand for: which argument is which.
use Rattle.std.specs.Prelude.{List, [], ◌∷◌, ℕ, T}
use Rattle.rulebook.specs.declared.Input.{Input}
use Rattle.rulebook.specs.declared.Input.TheVariants as input
use Rattle.rulebook.specs.PaperNumbers.{vote_number}
use Rattle.rulebook.specs.Scripts.{equals}
use Rattle.rulebook.specs.Computes.{rules}
use Rattle.inputs.specs.Inputs.{vote_input, block_input, timeout_input}

-- An input by what it is and what it carries: 1 a vote of a kind, by a node, in a slot, for a block; 2 a block in a slot, its number, its
-- parent's slot and number; 3 a slot's timeout; 4 a look.
abbrev shown : Input → List ℕ
shown (input.Vote v) = 1 ∷ vote_number v.kind ∷ v.node.0 ∷ v.slot.0 ∷ v.block ∷ []
shown (input.Block s b) = 2 ∷ s.0 ∷ b.number ∷ b.parentslot.0 ∷ b.parent ∷ []
shown (input.Timeout s) = 3 ∷ s.0 ∷ []
shown input.Look = 4 ∷ []

corners_of_inputs : T (equals (shown (vote_input 1 22 23 24) ∷ shown (vote_input 5 32 33 34) ∷ shown (vote_input 6 42 43 44) ∷ shown (block_input 51 52 53 54) ∷ shown (timeout_input 61) ∷ [])
    ((1 ∷ 1 ∷ 22 ∷ 23 ∷ 24 ∷ []) ∷ (1 ∷ 5 ∷ 32 ∷ 33 ∷ 34 ∷ []) ∷ (1 ∷ 0 ∷ 42 ∷ 43 ∷ 44 ∷ []) ∷ (2 ∷ 51 ∷ 52 ∷ 53 ∷ 54 ∷ []) ∷ (3 ∷ 61 ∷ []) ∷ []))
unfolding rules
corners_of_inputs = tt
