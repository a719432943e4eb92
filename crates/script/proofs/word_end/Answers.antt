-- The stretch from the place on, as far as the test passes.
use mathlib.Core.Path.{◌≡◌, ap, ◌∙◌}
use Prim.Native.Nat.{ℕ, ◌+◌, ◌-◌}
use native.Mathlib.Omega.{arith}
use lib.ListN.{length, drop}
use lib.Seq.{take_all}
use borrow.Author.Rules.{rules}
use Rattle.std.specs.List.{prefix_len}
use Rattle.std.proofs.lemmas.List.{length-drop}
use Rattle.std.proofs.lemmas.List.Folds.{length-prefix_len}
use Rattle.std.proofs.lemmas.List.Sums.{prefix_len-le-length}
use Rattle.std.proofs.lemmas.Iterator.{YieldsList-from_slice}
use Rattle.std.proofs.lemmas.Iterator.Consumers.{count_from_yields_List}
use Rattle.std.proofs.lemmas.Iterator.Search.{YieldsList-from_take_while}
use Rattle.script.specs.Words.{is_ink}
use Rattle.script.proofs.word_end.Goals as goal

pub returns : goal.returns
returns c =
    let rest = drop c.args.at c.args.line.now in
    let l = length-drop c.args.at c.args.line.now in
    let t = take_all (length c.args.line.now - c.args.at) rest (omega arith) in
    let e = count_from_yields_List _ _ c.count.ensures.ran (YieldsList-from_take_while _ is_ink (YieldsList-from_slice rest cc) c.take_while.ensures.closure c.take_while.ensures.done (λ x b q k. search rules)) in
    let f : c.count.result ≡ prefix_len is_ink rest = e ∙ length-prefix_len is_ink rest in
    let h = prefix_len-le-length is_ink rest in
    record { exact = ap (λ (k : ℕ). c.args.at + k) f; low = omega arith; high = omega arith }
