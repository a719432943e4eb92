-- Every place is free.
use mathlib.Core.Path.{◌≡◌, refl}
use Prim.Native.Nat.{ℕ}
use mathlib.Core.Bool.{true, false}
use borrow.Author.Rules.{rules}
use borrow.Author.Tests.{tests}
use Rattle.std.proofs.lemmas.Iterator.{cases_from_all, YieldsList-from_range}
use Rattle.rulebook.specs.Ledger.{is_free}
use Rattle.verdicts.proofs.Kept.{place, all_kept}
use Rattle.announcing.proofs.keeps_none.Goals as goal

pub returns : goal.returns
returns c =
    let a = c.args in
    let f = λ (i : ℕ). is_free (place a.rec.now a.s.0 c.requires.slot i) in
    all_kept a.rec.now a.s.0 c.requires.slot (λ k. is_free k) _
    (cases_from_all _ _ _ (λ i. f i ≡ true) (λ i. f i ≡ false) c.all.ensures.ran (YieldsList-from_range 0 4 4 refl refl) (λ x q k. search (rules, tests)) (λ x q k. search (rules, tests)))
