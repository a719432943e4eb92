-- The inputs that a host's numbers stand for.
use Rattle.std.specs.Prelude.{ℕ}
use Rattle.rulebook.specs.declared.Input.{Input}
use Rattle.rulebook.specs.declared.Input.TheVariants as input
use Rattle.rulebook.specs.Messages.{vote_of}

-- Another node's vote: its kind, whose it is, its slot and block.
abbrev pub vote_input : ℕ → ℕ → ℕ → ℕ → Input
vote_input kind node slot block = input.Vote (vote_of kind node slot block)

-- A block in a slot with its parent.
abbrev pub block_input : ℕ → ℕ → ℕ → ℕ → Input
block_input slot number parentslot parent =
    input.Block (record { 0 = slot }) (record { number = number; parentslot = record { 0 = parentslot }; parent = parent })

-- A slot's timeout.
abbrev pub timeout_input : ℕ → Input
timeout_input slot = input.Timeout (record { 0 = slot })
