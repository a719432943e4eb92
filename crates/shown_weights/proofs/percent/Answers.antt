-- No total, too much weight, and the quotient; nothing wraps below 2^48.
use mathlib.Core.Bool.{not}
use mathlib.Core.Path.{ap}
use Prim.Native.Nat.{◌/◌, ◌-◌, ◌*◌}
use native.Mathlib.Omega.{arith}
use lib.Dec.{leb}
use borrow.Author.Tests.{eq-eqb, ne_eqb, le-leb, lt-leb}
use Rattle.rulebook.specs.Ledger.{none}
use Rattle.rulebook.specs.Weights.{most_stake}
use Rattle.shown_weights.specs.Weights.{percent}
use Rattle.shown.proofs.Laws.{first_off, second_off, both_on}
use Rattle.shown_weights.proofs.percent.Goals as goal

pub returns-then-t-eq0 : goal.returns-then-t-eq0
unfolding percent
returns-then-t-eq0 c =
    first_off (not (none c.args.t.0)) (leb c.args.w.0 most_stake) 0 (λ _. 100 * c.args.w.0 / c.args.t.0) (ap not (eq-eqb _ 0 c.if-t-eq0.true))

pub returns-then-w-gt-MOST_STAKE : goal.returns-then-w-gt-MOST_STAKE
unfolding percent
returns-then-w-gt-MOST_STAKE c =
    second_off (not (none c.args.t.0)) (leb c.args.w.0 most_stake) 0 (λ _. 100 * c.args.w.0 / c.args.t.0) (lt-leb c.args.w.0 most_stake (omega arith))

pub returns : goal.returns
unfolding percent
returns c =
    both_on (not (none c.args.t.0)) (leb c.args.w.0 most_stake) 0 (λ _. 100 * c.args.w.0 / c.args.t.0) (ap not (ne_eqb _ 0 c.if-t-eq0.false)) (le-leb c.args.w.0 most_stake (omega arith))
