-- What taking an input asks, from a sound record. Assumes nothing.
use mathlib.Core.List.{List}
use Prim.Native.Nat.{ℕ}
use Rattle.rulebook.specs.declared.Input.{Input}
use Rattle.soundness.proofs.Laws.{sound_long, sound_ledger}
use Rattle.intake.specs.Taking as intake
use Rattle.node.specs.Stepping.{Taking}

-- A sound record has what taking asks.
pub taking_in : {ws out : List ℕ} {i : Input} → Taking ws out i → intake.Taking ws out i
taking_in {ws = ws} k = record { long = sound_long ws k.sound; room = k.room; sound = sound_ledger ws k.sound; fine = k.fine }
