-- The best so far is the lowest of the blocks passed that D applies to.
use mathlib.Core.Path.{◌≡◌, ◌∙◌, ap}
use Prim.Native.Nat.{ℕ}
use native.Mathlib.Omega.{arith}
use lib.ListN.{length}
use Rattle.rulebook.specs.Tools.{lowest}
use Rattle.rulebook.specs.Rules.{falls_back}
use Rattle.record.specs.Layout.{ledger_of}
use Rattle.candidates.specs.Judging.{blocks_to}
use Rattle.candidates.proofs.HeavyLaws.{blocks_start, blocks_next}
use Rattle.candidates.proofs.lowest_of.Goals as goal

pub loop-b-init : goal.loop-b-init
loop-b-init c = blocks_start (falls_back (ledger_of c.args.rec.now) c.args.s.0) c.args.blocks.now

pub loop-b-preserved : goal.loop-b-preserved
loop-b-preserved c =
    blocks_next (falls_back (ledger_of c.args.rec.now) c.args.s.0) c.args.blocks.now c.loop-b.b-index c.loop-b.best _ c.loop-b.invariant c.lower_fallback-best.ensures

pub returns : goal.returns
returns c =
    let e : c.loop-b.b-index ≡ length c.args.blocks.now = omega arith in c.loop-b.invariant ∙ ap (λ (j : ℕ). lowest (falls_back (ledger_of c.args.rec.now) c.args.s.0) (blocks_to c.args.blocks.now j)) e
