-- The slots behind wait for nothing where none is found.
use Prim.Native.Nat.{◌+◌, ◌-◌}
use mathlib.Core.Path.{refl}
use native.Mathlib.Omega.{arith}
use borrow.Author.Rules.{rules}
use borrow.Author.Tests.{tests}
use Rattle.std.specs.Bool.{⊤}
use Rattle.std.proofs.iter.Serving.{serving}
use Rattle.std.proofs.lemmas.Iterator.{cases_from_any, serves_from_Range, YieldsList-from_range}
use Rattle.candidates.specs.Judging.{Judging}
use Rattle.record.specs.Layout.{ledger_of}
use Rattle.stirring.specs.Stirring.{Unwaiting}
use Rattle.stirring.proofs.Asked.{none_found}
use Rattle.stirring.proofs.is_awaited.Goals as goal

pub any-requires-clause-callable : goal.any-requires-clause-callable
any-requires-clause-callable c =
    serves_from_Range (λ x q k. search rules) (λ x a b. let h : Judging c.args.rec.now x = c.requires.0.each x (omega arith) (omega arith) in grind (serving, h))

pub returns : goal.returns
returns c =
    λ e t b d.
    let a = c.args in
    let n = a.s.0 + 1 in
    none_found (λ i. ⊤) (λ i. Unwaiting (ledger_of a.rec.now) i) n (17 - n) _ (cases_from_any _ _ _ (λ i. ⊤) (λ i. Unwaiting (ledger_of a.rec.now) i) c.any.ensures.ran (YieldsList-from_range n 17 _ refl refl) (λ x q k. tt) (λ x q k. search (rules, tests))) e t (omega arith) (omega (arith, c.requires.1))
