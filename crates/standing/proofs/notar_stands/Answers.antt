-- No place behind the loop keeps the block with a parent that fits.
use mathlib.Core.Path.{◌∙◌, ap, sym}
use mathlib.Core.Bool.{◌||◌}
use native.Mathlib.Omega.{arith}
use Rattle.rulebook.specs.declared.Block.{Block}
use Rattle.rule_laws.proofs.ToolLaws.{some_none, some_more}
use Rattle.record.specs.Layout.{ledger_of}
use Rattle.record.proofs.Reading.{ledger_shaped}
use Rattle.inquest.specs.Stands.{lets_notar}
use Rattle.standing.proofs.Laws.{lets_at, notar_places, notar_at}
use Rattle.standing.proofs.notar_stands.Goals as goal

pub loop-n-init : goal.loop-n-init
loop-n-init c =
    let a = c.args in
    (omega arith, some_none (lets_at (ledger_of a.rec.now) a.s.0 a.b))

pub load_block-k-requires : goal.load_block-k-requires
load_block-k-requires c =
    let a = c.requires in record { long = a.weighing.long; slot = a.weighing.slot; place = omega arith }

pub returns-then-lets_notar : goal.returns-then-lets_notar
returns-then-lets_notar c =
    let l = ledger_of c.args.rec.now in
    sym (notar_at l c.args.s.0 c.args.b 4 c.loop-n.n ((ledger_shaped c.args.rec.now).blocks c.args.s.0 c.requires.weighing.slot) (omega arith)
    (ap (λ (k : Block). lets_notar l c.args.s.0 c.args.b k) (sym c.load_block-k.ensures) ∙ sym c.lets_notar.ensures ∙ c.if-lets_notar.true))

pub loop-n-preserved : goal.loop-n-preserved
loop-n-preserved c =
    let a = c.args in
    let l = ledger_of a.rec.now in
    let k = c.loop-n in
    let here = ap (λ (x : Block). lets_notar l a.s.0 a.b x) (sym c.load_block-k.ensures) ∙ sym c.lets_notar.ensures ∙ c.if-lets_notar.false in
    (omega arith, some_more k.n (lets_at l a.s.0 a.b) ∙ (λ i. k.invariant.1 i || here i))

pub returns : goal.returns
returns c =
    let l = ledger_of c.args.rec.now in
    let k = c.loop-n in
    sym (notar_places l c.args.s.0 c.args.b k.n ((ledger_shaped c.args.rec.now).blocks c.args.s.0 c.requires.weighing.slot ∙ omega arith) ∙ k.invariant.1)
