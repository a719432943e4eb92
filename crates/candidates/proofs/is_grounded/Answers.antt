-- No place behind the loop keeps the block with its parent backed.
use mathlib.Core.Path.{◌∙◌, ap, sym}
use mathlib.Core.Bool.{◌||◌}
use native.Mathlib.Omega.{arith}
use Rattle.rulebook.specs.declared.Block.{Block}
use Rattle.rulebook.specs.Rules.{is_backed}
use Rattle.rule_laws.proofs.ToolLaws.{some_none, some_more}
use Rattle.record.specs.Layout.{ledger_of}
use Rattle.record.proofs.Reading.{ledger_shaped}
use Rattle.candidates.proofs.WaitLaws.{backed_at, grounded_first, grounded_later, grounded_at}
use Rattle.candidates.proofs.is_grounded.Goals as goal

pub returns-then-is_first : goal.returns-then-is_first
returns-then-is_first c =
    let a = c.args in
    sym (grounded_first (ledger_of a.rec.now) a.s.0 a.b (sym c.is_first.ensures ∙ c.if-is_first.true))

pub loop-n-init : goal.loop-n-init
loop-n-init c =
    let a = c.args in
    (omega arith, some_none (backed_at (ledger_of a.rec.now) a.s.0 a.b))

pub load_block-k-requires : goal.load_block-k-requires
load_block-k-requires c =
    let a = c.requires in record { long = a.weighing.long; slot = a.weighing.slot; place = omega arith }

pub returns-then-is_backed : goal.returns-then-is_backed
returns-then-is_backed c =
    let l = ledger_of c.args.rec.now in
    sym (grounded_at l c.args.s.0 c.args.b 4 c.loop-n.n ((ledger_shaped c.args.rec.now).blocks c.args.s.0 c.requires.weighing.slot)
    (sym c.is_first.ensures ∙ c.if-is_first.false) (omega arith)
    (ap (λ (k : Block). is_backed l c.args.s.0 c.args.b k) (sym c.load_block-k.ensures) ∙ sym c.is_backed.ensures ∙ c.if-is_backed.true))

pub loop-n-preserved : goal.loop-n-preserved
loop-n-preserved c =
    let a = c.args in
    let l = ledger_of a.rec.now in
    let k = c.loop-n in
    let here = ap (λ (x : Block). is_backed l a.s.0 a.b x) (sym c.load_block-k.ensures) ∙ sym c.is_backed.ensures ∙ c.if-is_backed.false in
    (omega arith, some_more k.n (backed_at l a.s.0 a.b) ∙ (λ i. k.invariant.1 i || here i))

pub returns : goal.returns
returns c =
    let l = ledger_of c.args.rec.now in
    let k = c.loop-n in
    sym (grounded_later l c.args.s.0 c.args.b k.n ((ledger_shaped c.args.rec.now).blocks c.args.s.0 c.requires.weighing.slot ∙ omega arith) (sym c.is_first.ensures ∙ c.if-is_first.false) ∙ k.invariant.1)
