-- The first word at the cell's place is the cell's notar vote.
use mathlib.Core.Path.{ap}
use Rattle.rulebook.specs.declared.Cell.{Cell}
use Rattle.record.proofs.Reading.{cell_read}
use Rattle.record.proofs.notar_of.Goals as goal

pub returns : goal.returns
returns c =
    ap (λ (x : Cell). x.notar) (cell_read c.args.rec.now c.args.s.0 c.args.n.0 _ c.requires c.cell_start-i.ensures.is)
