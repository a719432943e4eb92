-- By whether the node counts.
use native.Mathlib.Omega.{arith}
use Rattle.rule_laws.proofs.ToolLaws.{part_on, part_off}
use Rattle.audit.proofs.added.Goals as goal

pub returns-then-counts : goal.returns-then-counts
returns-then-counts c = omega (arith, part_on _ c.args.w.0 c.if-counts.true)

pub returns : goal.returns
returns c = omega (arith, part_off _ c.args.w.0 c.if-counts.false)
