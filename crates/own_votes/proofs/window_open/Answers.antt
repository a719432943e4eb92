-- The four slots of the window in turn.
use mathlib.Core.Path.{refl, ap, ◌∙◌}
use Prim.Native.Nat.{ℕ, ◌+◌, ◌-◌, ◌*◌, ◌/◌}
use borrow.Author.Tests.{tests}
use Rattle.std.proofs.Common.{rules}
use Rattle.rulebook.specs.Tools.{some_to}
use Rattle.rulebook.specs.Rules.{window_open}
use Rattle.record.specs.Layout.{ledger_of}
use Rattle.record.proofs.Ranges.{some_below}
use Rattle.own_votes.proofs.WindowLaws.{unvoted, first_is}
use Rattle.own_votes.proofs.window_open.Goals as goal

pub returns : goal.returns
unfolding window_open
returns c =
    let l = ledger_of c.args.rec.now in
    let first = (c.args.s.0 - 1) / 4 * 4 + 1 in
    some_below 4 (unvoted l first) _ c.any.result refl c.any.ensures.ran (λ x b q k. search (rules, tests))
    ∙ ap (λ (f : ℕ). some_to 4 (unvoted l f)) (first_is c.args.s.0)
