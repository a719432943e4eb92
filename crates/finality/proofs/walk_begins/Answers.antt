-- The slot's final block as it is kept; then the parent's slot.
use mathlib.Core.Path.{◌∙◌, ap}
use Prim.Native.Nat.{ℕ}
use native.Mathlib.Omega.{arith}
use lib.Dec.{eqb, leb}
use borrow.Author.Tests.{leb-false}
use Rattle.rulebook.specs.Ledger.{blocks_at}
use Rattle.rulebook.specs.Rules.{find_block}
use Rattle.rule_laws.proofs.ToolLaws.{or_none}
use Rattle.record.specs.Layout.{ledger_of}
use Rattle.finality.proofs.FinalLaws.{begins_nowhere, begins_below}
use Rattle.finality.proofs.walk_begins.Goals as goal

pub returns-then-p-s : goal.returns-then-p-s
returns-then-p-s c =
    let a = c.args in let l = ledger_of a.rec.now in let s : ℕ = a.s.0 in
    begins_nowhere l s _ (c.find_block-k.ensures ∙ ap (λ (f : ℕ). find_block f (blocks_at l s)) c.final_block.ensures) c.if-p-s.true

pub final_block-requires-2 : goal.final_block-requires-2
final_block-requires-2 c =
    let s : ℕ = c.args.s.0 in let p : ℕ = c.find_block-k.result.parentslot.0 in
    let below = leb-false s p (or_none (eqb p 0) (leb s p) c.if-p-s.false).1 in
    record { long = c.requires.long; slot = omega (arith, c.requires.slot, below) }

pub returns : goal.returns
returns c =
    let a = c.args in let l = ledger_of a.rec.now in let s : ℕ = a.s.0 in
    begins_below l s _ (c.find_block-k.ensures ∙ ap (λ (f : ℕ). find_block f (blocks_at l s)) c.final_block.ensures) _ c.final_block-2.ensures c.if-p-s.false
