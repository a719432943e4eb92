-- A place is found in which the block stands.
use mathlib.Core.Path.{◌≡◌, refl}
use Prim.Native.Nat.{ℕ}
use mathlib.Core.Bool.{true, false}
use borrow.Author.Rules.{rules}
use borrow.Author.Tests.{tests}
use Rattle.std.proofs.lemmas.Iterator.{cases_from_any, YieldsList-from_range}
use Rattle.rulebook.specs.Inputs.{same_block}
use Rattle.verdicts.proofs.Kept.{place, some_kept}
use Rattle.verdicts.proofs.keeps.Goals as goal

pub returns : goal.returns
returns c =
    let a = c.args in
    let p = λ (i : ℕ). same_block (place a.rec.now a.s.0 c.requires.slot i) a.b in
    some_kept a.rec.now a.s.0 c.requires.slot (λ k. same_block k a.b) _
    (cases_from_any _ _ _ (λ i. p i ≡ true) (λ i. p i ≡ false) c.any.ensures.ran (YieldsList-from_range 0 4 4 refl refl) (λ x q k. search (rules, tests)) (λ x q k. search (rules, tests)))
