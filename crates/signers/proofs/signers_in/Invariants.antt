-- Each word names its own nodes.
use mathlib.Core.Path.{◌≡◌}
use Prim.Native.Nat.{◌-◌}
use lib.ListN.{length}
use Rattle.rulebook.specs.Ledger.{cell_at}
use Rattle.record.specs.Layout.{ledger_of}
use Rattle.signers.specs.Masks.{in_mask, Wide}
use Rattle.signers.proofs.Signers.{Filled}
use Rattle.signers.proofs.signers_in.Given as goal

abbrev pub invariant-loop-i : goal.invariant-loop-i
invariant-loop-i l =
    (l.i-end ≡ length l.initial.mask) × (w : Wide l.nodes l.initial.mask) × Filled (λ n. in_mask l.which l.kind l.b (cell_at (ledger_of l.rec) l.s.0 n)) l.nodes (length l.initial.mask) l.mask l.i

abbrev pub decreases-loop-i : goal.decreases-loop-i
decreases-loop-i l =
    l.i-end - l.i
