-- Past the first place of kind 3, at the loop's head, the places of kind 3 behind it are for other blocks.
use mathlib.Core.Path.{◌≡◌}
use mathlib.Core.Bool.{true}
use Prim.Native.Nat.{◌-◌, ◌≤◌}
use Rattle.rulebook.specs.Ledger.{certificates_at}
use Rattle.record.specs.Layout.{ledger_of}
use Rattle.kept_audit.proofs.Laws.{apart_to}
use Rattle.kept_audit.proofs.is_behind.Given as goal

abbrev pub invariant-loop-m : goal.invariant-loop-m
invariant-loop-m l =
    (4 ≤ l.m) × ((l.m ≤ l.n) × (apart_to (certificates_at (ledger_of l.rec) l.s.0) l.n l.m ≡ true))

abbrev pub decreases-loop-m : goal.decreases-loop-m
decreases-loop-m l =
    l.n - l.m
