-- Nothing kept; else its line.
use mathlib.Core.Path.{◌∙◌, sym}
use Rattle.record.specs.Layout.{ledger_of}
use Rattle.kept_lines.proofs.Laws.{free_line, kept_line}
use Rattle.kept_lines.proofs.put_place.Goals as goal

pub returns-then-not-is_kept : goal.returns-then-not-is_kept
returns-then-not-is_kept c =
    let a = c.args in
    free_line _ (ledger_of a.rec.now) a.s.0 a.n (sym c.is_kept.ensures ∙ c.if-not-is_kept.true)

pub returns : goal.returns
returns c =
    let a = c.args in
    kept_line _ (ledger_of a.rec.now) a.s.0 a.n _ _ (sym c.is_kept.ensures ∙ c.if-not-is_kept.false) c.told_of.ensures c.count.ensures
    c.put_told.ensures
