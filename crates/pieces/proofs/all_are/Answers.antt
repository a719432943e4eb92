-- The tests of all of them joined.
use Rattle.std.proofs.Common.{rules, Bool}
use mathlib.Core.Path.{◌∙◌}
use mathlib.Core.Bool.{true, ◌&&◌}
use Rattle.std.proofs.lemmas.Iterator.{YieldsList-from_slice}
use Rattle.std.proofs.lemmas.Iterator.Consumers.{fold_from_yields_List}
use Rattle.pieces.proofs.Runs.{joined_all}
use Rattle.pieces.proofs.all_are.Goals as goal

pub returns : goal.returns
returns g c =
    fold_from_yields_List _ (λ (t : Bool) y. t && g.T.PartialEq.eq y c.args.x.now) true c.fold.result c.fold.ensures.ran (YieldsList-from_slice c.args.xs.now c.iter.ensures.rest) (λ a x b q k. search rules)
    ∙ joined_all (λ y. g.T.PartialEq.eq y c.args.x.now) c.args.xs.now
