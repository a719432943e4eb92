-- Not after it, the best is no higher, the block, and a block that is not heavy.
use native.Mathlib.Omega.{arith}
use Rattle.record.specs.Layout.{ledger_of}
use Rattle.shown_heavy.specs.Heavy.{heavy_past}
use Rattle.shown_heavy.proofs.Laws.{lower_kept, heavy_before, heavy_passed, heavy_found}
use Rattle.shown_heavy.proofs.heavy_next.Goals as goal

pub returns-then-b-after : goal.returns-then-b-after
returns-then-b-after c = let a = c.args in heavy_before (ledger_of a.rec.now) a.s.0 a.after a.b a.best (omega arith)

pub returns-then-best-b : goal.returns-then-best-b
returns-then-best-b c =
    let a = c.args in lower_kept (heavy_past (ledger_of a.rec.now) a.s.0 a.after a.b) a.b a.best c.if-best-b.true

pub returns-then-is_heavy : goal.returns-then-is_heavy
returns-then-is_heavy c =
    let a = c.args in heavy_found (ledger_of a.rec.now) a.s.0 a.after a.b a.best (omega arith) _ c.is_heavy.ensures c.if-is_heavy.true c.if-best-b.false

pub returns : goal.returns
returns c =
    let a = c.args in heavy_passed (ledger_of a.rec.now) a.s.0 a.after a.b a.best (omega arith) _ c.is_heavy.ensures c.if-is_heavy.false
