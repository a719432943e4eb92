-- The loop over the places: the lines of those behind it are put.
use Prim.Native.Nat.{◌-◌, ◌≤◌}
use Rattle.rulebook.specs.Ledger.{most_certificates}
use Rattle.record.specs.Layout.{ledger_of}
use Rattle.kept_lines.specs.Told.{told_to}
use Rattle.kept_lines.specs.Lent.{Laid}
use Rattle.kept_lines.proofs.put_places.Given as goal

abbrev pub invariant-loop-n : goal.invariant-loop-n
invariant-loop-n l =
    (l.n ≤ most_certificates) × Laid (ledger_of l.rec).count l.initial.list 0 (told_to (ledger_of l.rec) l.s.0 l.n) l.list l.next

abbrev pub decreases-loop-n : goal.decreases-loop-n
decreases-loop-n l =
    most_certificates - l.n
