-- The total, or what was counted.
use native.Mathlib.Omega.{arith}
use Rattle.record.specs.Layout.{ledger_of}
use Rattle.looks.proofs.Beside.{beside_total}
use Rattle.looks.proofs.look_before.Goals as goal

pub is_armed-requires : goal.is_armed-requires
is_armed-requires c = c.requires.1

pub nothing_kept-requires : goal.nothing_kept-requires
nothing_kept-requires c = let p = c.requires.0 in record { long = p.long; slot = p.slot }

pub total-requires : goal.total-requires
total-requires c = c.requires.0.long

pub returns-then-is_armed-nothing_kept : goal.returns-then-is_armed-nothing_kept
returns-then-is_armed-nothing_kept c =
    omega (arith, beside_total (ledger_of c.args.rec.now) c.args.s.0 c.requires.0.table, c.total.ensures)

pub named_beside-requires : goal.named_beside-requires
named_beside-requires c = c.requires.0

pub returns : goal.returns
returns c = omega (arith, c.named_beside.ensures)
