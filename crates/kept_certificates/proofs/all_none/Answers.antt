-- The words are 0 exactly where all of them or-ed together are.
use mathlib.Core.Path.{◌∙◌, ap}
use Prim.Native.Nat.{ℕ}
use lib.Bits.{bit_or}
use lib.Dec.{eqb}
use Rattle.std.proofs.Common.{rules}
use Rattle.std.proofs.lemmas.Iterator.{YieldsList-from_slice}
use Rattle.std.proofs.lemmas.Iterator.Consumers.{fold_from_yields_List}
use Rattle.kept_certificates.proofs.Laws.{or_found}
use Rattle.kept_certificates.proofs.all_none.Goals as goal

pub returns : goal.returns
returns c =
    ap (λ (x : ℕ). eqb x 0)
    (fold_from_yields_List _ bit_or 0 c.fold.result c.fold.ensures.ran (YieldsList-from_slice c.args.words.now c.iter.ensures.rest) (λ a x b q k. search rules))
    ∙ or_found c.args.words.now
