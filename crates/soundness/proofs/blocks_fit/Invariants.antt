-- Where the first place is empty, all are to be. Else the loop has joined the tests of the places behind it: each place's own,
-- and its order behind those before it.
use mathlib.Core.Bool.{◌&&◌}
use mathlib.Core.Path.{◌≡◌}
use Prim.Native.Nat.{◌-◌, ◌≤◌}
use lib.ListN.{get_or}
use Rattle.rulebook.specs.WellFormed.{kept_fits}
use Rattle.rulebook.specs.Ledger.{no_block, blocks_at}
use Rattle.rulebook.specs.Tools.{all_to}
use Rattle.record.specs.Layout.{ledger_of}
use Rattle.record.specs.BlockPlaces.{behind}
use Rattle.soundness.proofs.blocks_fit.Given as goal

abbrev pub invariant-loop-n : goal.invariant-loop-n
invariant-loop-n l =
    (l.n ≤ 4) × (l.ok ≡ all_to l.n (λ k. kept_fits (ledger_of l.rec) l.s.0 (get_or (blocks_at (ledger_of l.rec) l.s.0) k no_block) && behind (blocks_at (ledger_of l.rec) l.s.0) k (get_or (blocks_at (ledger_of l.rec) l.s.0) k no_block).number))

abbrev pub decreases-loop-n : goal.decreases-loop-n
decreases-loop-n l =
    4 - l.n
