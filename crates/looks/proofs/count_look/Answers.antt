-- No word, one that was counted, or counted now.
use native.Mathlib.Omega.{arith}
use Rattle.record.specs.Layout.{ledger_of}
use Rattle.looks.proofs.Beside.{bounds_counted}
use Rattle.looks.proofs.count_look.Goals as goal

pub returns : goal.returns
returns c =
    let a = c.args in
    bounds_counted (ledger_of a.rec.now) a.looks.now a.s.0 _ c.requires.1 (omega (arith, c.if-looks-i.false)) c.named_beside-w.ensures
