-- The best so far is the lowest of the blocks passed that D applies to.
use mathlib.Core.Path.{◌≡◌}
use Rattle.rulebook.specs.Tools.{lowest}
use Rattle.rulebook.specs.Rules.{falls_back}
use Rattle.record.specs.Layout.{ledger_of}
use Rattle.candidates.specs.Judging.{blocks_to}
use Rattle.candidates.proofs.lowest_of.Given as goal

abbrev pub invariant-loop-b : goal.invariant-loop-b
invariant-loop-b l = l.best ≡ lowest (falls_back (ledger_of l.rec) l.s.0) (blocks_to l.blocks l.b-index)
