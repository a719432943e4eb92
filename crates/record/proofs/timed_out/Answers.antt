-- The mark is compared with 0.
use mathlib.Core.Bool.{not}
use mathlib.Core.Path.{ap}
use Prim.Native.Nat.{ℕ}
use Rattle.rulebook.specs.Ledger.{none}
use Rattle.record.proofs.timed_out.Goals as goal

pub returns : goal.returns
returns c = ap (λ (x : ℕ). not (none x)) c.timeout_word.ensures
