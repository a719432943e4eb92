-- The loop takes one node a turn, by the bit that its cell passes for.
use mathlib.Core.Path.{◌≡◌}
use Prim.Native.Nat.{◌+◌, ◌-◌, ◌≤◌, min}
use Rattle.rulebook.specs.Ledger.{cell_at}
use Rattle.rulebook.specs.Packets.{mask_of}
use Rattle.record.specs.Layout.{ledger_of}
use Rattle.signers.specs.Masks.{in_mask}
use Rattle.signers.proofs.signers_from.Given as goal

abbrev pub invariant-loop-j : goal.invariant-loop-j
invariant-loop-j l =
    (l.upto ≡ min 64 (l.nodes - l.from.0)) × (l.j ≤ l.upto) × (l.word ≡ mask_of (λ i. in_mask l.which l.kind l.b (cell_at (ledger_of l.rec) l.s.0 (l.from.0 + i))) l.j)

abbrev pub decreases-loop-j : goal.decreases-loop-j
decreases-loop-j l =
    l.upto - l.j
