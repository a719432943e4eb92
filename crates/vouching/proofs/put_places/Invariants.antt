-- The loop over the places: the lines of those behind it are put.
use Prim.Native.Nat.{◌-◌, ◌≤◌}
use Rattle.rulebook.specs.Ledger.{most_certificates, certificates_at}
use Rattle.record.specs.Layout.{ledger_of}
use Rattle.inquest.specs.Lists.{lines_to}
use Rattle.inquest_lines.specs.Lent.{Laid}
use Rattle.vouching.proofs.Laws.{lacks_at}
use Rattle.vouching.proofs.put_places.Given as goal

abbrev pub invariant-loop-n : goal.invariant-loop-n
invariant-loop-n l =
    (l.n ≤ most_certificates) × Laid l.initial.list l.at (lines_to l.n (lacks_at l.s.0 l.m.0 l.d (certificates_at (ledger_of l.rec) l.s.0))) l.list l.next

abbrev pub decreases-loop-n : goal.decreases-loop-n
decreases-loop-n l =
    most_certificates - l.n
