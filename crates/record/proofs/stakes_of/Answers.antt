-- The part of the words behind the armed windows, as long as the count.
use mathlib.Core.Path.{◌≡◌, ◌∙◌, ap}
use Prim.Native.Nat.{ℕ, ◌+◌, ◌-◌}
use native.Mathlib.Omega.{arith}
use lib.ListN.{take, drop}
use Rattle.record.specs.Layout.{ledger_of}
use Rattle.record.proofs.Places.{nodes_there}
use Rattle.record.proofs.Setup.{stakes_part}
use Rattle.record.proofs.stakes_of.Goals as goal

pub overflow_add-end : goal.overflow_add-end
overflow_add-end c = omega (arith, nodes_there c.args.rec.now c.requires, c.count-end.ensures)

pub slice_bounds-result-end : goal.slice_bounds-result-end
slice_bounds-result-end c = omega (arith, nodes_there c.args.rec.now c.requires, c.count-end.ensures)

pub returns : goal.returns
returns c =
    let ws = c.args.rec.now in
    let e : 8 + c.count-end.result - 8 ≡ (ledger_of ws).count = omega (arith, c.count-end.ensures) in
    ap (λ (k : ℕ). take k (drop 8 ws)) e ∙ stakes_part ws (ledger_of ws).count c.requires.long c.requires.few
