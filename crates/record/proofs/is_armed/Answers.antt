-- The word of the slot's window is compared with 0.
use mathlib.Core.Bool.{not}
use mathlib.Core.Path.{ap}
use Prim.Native.Nat.{ℕ}
use Rattle.rulebook.specs.Weights.{window_of}
use Rattle.rulebook.specs.Ledger.{none}
use Rattle.record.proofs.is_armed.Goals as goal

pub returns : goal.returns
unfolding window_of
returns c = ap (λ (x : ℕ). not (none x)) c.armed_word.ensures
