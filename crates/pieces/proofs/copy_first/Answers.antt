-- What is behind the loop is copied.
use mathlib.Core.Path.{sym, ap, ◌∙◌}
use mathlib.Core.List.{List}
use Prim.Native.Nat.{◌+◌}
use native.Mathlib.Numerals.{add-one}
use native.Mathlib.Omega.{arith}
use lib.ListN.{set, length-set}
use lib.Seq.{paste, paste-suc}
use Rattle.pieces.proofs.copy_first.Goals as goal

pub loop-i-preserved : goal.loop-i-preserved
loop-i-preserved g c =
    let l = c.loop-i in
    let a = c.args in
    let x = c.index-from-i.result in
    let p = a.at + l.i in (
      simp length-set l.invariant.0,
      ap (λ (xs : List g.row.T.Denot). set xs p x) l.invariant.1
          ∙ ap (λ (y : g.row.T.Denot). set (paste a.to.now a.at a.from.now l.i) p y) c.index-from-i.is
          ∙ paste-suc a.to.now a.at a.from.now l.i x (omega arith) (omega arith)
          ∙ ap (paste a.to.now a.at a.from.now) (sym (add-one l.i)),
    )
