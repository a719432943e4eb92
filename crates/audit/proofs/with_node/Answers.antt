-- A plain cell and any other are added; a blank one adds nothing.
use mathlib.Core.Path.{◌∙◌, sym}
use native.Mathlib.Omega.{arith}
use Rattle.audit.specs.Summing.{with_cell}
use Rattle.audit.proofs.Summing.{blank_adds, words_plain}
use Rattle.audit.proofs.with_node.Goals as goal

pub load_cell-c-requires : goal.load_cell-c-requires
load_cell-c-requires c =
    let a = c.requires in record { long = a.weighing.long; slot = a.weighing.slot; node = omega (arith, a.node, a.weighing.table.few) }

pub stake-requires : goal.stake-requires
stake-requires c =
    let a = c.requires in record { long = a.weighing.long; node = omega (arith, a.node, a.weighing.table.few) }

pub with_plain-requires : goal.with_plain-requires
with_plain-requires c =
    (rw c.stake.ensures c.requires.room, words_plain c.load_cell-c.result c.if-c-ne0.true c.if-c-eq0.true)

pub returns-then-c-eq0 : goal.returns-then-c-eq0
returns-then-c-eq0 c =
    let a = c.args in
    c.with_plain.ensures ∙ (λ i. with_cell a.sums (c.load_cell-c.ensures i) (c.stake.ensures i) a.b)

pub returns-then-cell_blank : goal.returns-then-cell_blank
returns-then-cell_blank c =
    let a = c.args in
    blank_adds a.sums c.load_cell-c.result _ _ a.b c.load_cell-c.ensures (sym c.cell_blank.ensures ∙ c.if-cell_blank.true)

pub stake-requires-2 : goal.stake-requires-2
stake-requires-2 c =
    let a = c.requires in record { long = a.weighing.long; node = omega (arith, a.node, a.weighing.table.few) }

pub with_cell-requires : goal.with_cell-requires
with_cell-requires c = rw c.stake-2.ensures c.requires.room

pub returns : goal.returns
returns c =
    let a = c.args in
    c.with_cell.ensures ∙ (λ i. with_cell a.sums (c.load_cell-c.ensures i) (c.stake-2.ensures i) a.b)
