-- Where nothing is kept all fits. Else, at the loop's head, the places behind it fit and are in turn, and the last of them tells
-- whether those of kind 3 are filled.
use mathlib.Core.Bool.{true}
use mathlib.Core.Path.{◌≡◌}
use Prim.Native.Nat.{◌-◌, ◌≤◌, ◌<◌}
use Rattle.rulebook.specs.Ledger.{table_of, certificates_at}
use Rattle.rulebook.specs.Tools.{all_to}
use Rattle.stakes.specs.Table.{Fit}
use Rattle.record.specs.Layout.{ledger_of}
use Rattle.kept_audit.specs.Judging.{filled_to}
use Rattle.kept_audit.proofs.Laws.{place_fits}
use Rattle.kept_audit.proofs.certificates_fit.Given as goal

abbrev pub invariant-loop-n : goal.invariant-loop-n
invariant-loop-n turn =
    let l = ledger_of turn.rec in
    let qs = certificates_at l turn.s.0 in
    (turn.n ≤ 13) × (Fit (table_of l) turn.t × ((4 < turn.n → turn.filled ≡ filled_to qs turn.n) × (all_to turn.n (place_fits (table_of l) turn.s.0 qs) ≡ true)))

abbrev pub decreases-loop-n : goal.decreases-loop-n
decreases-loop-n l =
    13 - l.n
