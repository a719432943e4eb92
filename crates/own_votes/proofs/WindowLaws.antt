-- Whether a window has a slot without an own initial vote, by the slots looked at. Assumes nothing.
use mathlib.Core.Path.{◌≡◌}
use mathlib.Core.Bool.{Bool}
use Prim.Native.Nat.{ℕ, ◌+◌, ◌-◌, ◌*◌, ◌/◌}
use native.Mathlib.Omega.{arith}
use Rattle.rulebook.specs.Weights.{window_of, first_of}
use Rattle.rulebook.specs.Ledger.{Ledger, own_cell, no_initial}

-- No own initial vote in the window's slot i.
abbrev pub unvoted : Ledger → ℕ → ℕ → Bool
unvoted l first i = no_initial (own_cell l (first + i))

pub first_is : (s : ℕ) → (s - 1) / 4 * 4 + 1 ≡ first_of s
unfolding first_of window_of
first_is s = omega arith
