-- A place is found with the number, and one that is free.
use mathlib.Core.Path.{◌≡◌, refl}
use Prim.Native.Nat.{ℕ}
use mathlib.Core.Bool.{true, false, not, ◌||◌}
use borrow.Author.Rules.{rules}
use borrow.Author.Tests.{tests}
use Rattle.std.proofs.lemmas.Iterator.{cases_from_any, YieldsList-from_range}
use Rattle.rulebook.specs.Ledger.{is_free, has_number}
use Rattle.rulebook.specs.Inputs.{stands_against}
use Rattle.verdicts.proofs.Kept.{place, some_kept}
use Rattle.verdicts.proofs.stands_against.Goals as goal

pub returns : goal.returns
unfolding stands_against
returns c =
    let a = c.args in
    let at = place a.rec.now a.s.0 c.requires.slot in
    let n = λ (i : ℕ). has_number a.b.number (at i) in
    let f = λ (i : ℕ). is_free (at i) in
    let named =
    some_kept a.rec.now a.s.0 c.requires.slot (has_number a.b.number) _
    (cases_from_any _ _ _ (λ i. n i ≡ true) (λ i. n i ≡ false) c.any-named.ensures.ran (YieldsList-from_range 0 4 4 refl refl) (λ x q k. search (rules, tests)) (λ x q k. search (rules, tests))) in
    let free =
    some_kept a.rec.now a.s.0 c.requires.slot (λ k. is_free k) _
    (cases_from_any _ _ _ (λ i. f i ≡ true) (λ i. f i ≡ false) c.any-free.ensures.ran (YieldsList-from_range 0 4 4 refl refl) (λ x q k. search (rules, tests)) (λ x q k. search (rules, tests))) in
    λ i. named i || not (free i)
