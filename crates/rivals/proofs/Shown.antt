-- Where no block leads there is no rival; where one does, it is one. Assumes nothing.
use mathlib.Core.Path.{◌≡◌, refl, sym, subst, ◌∙◌}
use mathlib.Core.Bool.{true, false, not}
use Prim.Native.Nat.{ℕ}
use native.Mathlib.Omega.{arith}
use borrow.Author.Tests.{eqb-false, not-true}
use Rattle.rulebook.specs.declared.Who.TheVariants as who
use Rattle.rulebook.specs.Ledger.{Ledger, none, cell_at}
use Rattle.rulebook.specs.Pool.{weigh}
use Rattle.rulebook.specs.Cards.{leads}
use Rattle.rule_laws.proofs.ToolLaws.{and_both, by_test, true_not_false, some_find}
use Rattle.vote_orders.specs.declared.Shown.{Shown}
use Rattle.vote_orders.specs.declared.Shown.TheVariants as shown
use Rattle.vote_orders.specs.Ordering.{Unled, is_led, Shows}
use Rattle.rivals.specs.Rivals.{rivals, has_rival}

unled_none : (l : Ledger) (s b v : ℕ) → Unled l s b v → has_rival l s b v l.count ≡ false
unfolding has_rival rivals
unled_none l s b v u =
    by_test (has_rival l s b v l.count)
    (λ t.
    let f = some_find l.count (λ i. rivals l s b v (cell_at l s i).notar) t in
    let m = (cell_at l s f.0).notar in
    let p = and_both (not (none m)) (leads m (weigh l s (who.Notar m)) b v) f.2 in
    let z = eqb-false m 0 (not-true (none m) p.0) in
    true_not_false (leads m (weigh l s (who.Notar m)) b v) p.1 (u m (omega arith)))
    (λ t. t)

led_some : (l : Ledger) (s b v : ℕ) → is_led l s b v ≡ has_rival l s b v l.count
unfolding is_led has_rival rivals
led_some l s b v = refl

pub shown_unled : (l : Ledger) (s b v : ℕ) (r : Shown) → Shows l s b v r → r ≡ shown.Unled → false ≡ has_rival l s b v l.count
unfolding Shows
shown_unled l s b v r h e = sym (unled_none l s b v (subst (Shows l s b v) e h))

pub shown_led : (l : Ledger) (s b v : ℕ) (r : Shown) → Shows l s b v r → r ≡ shown.Led → true ≡ has_rival l s b v l.count
unfolding Shows
shown_led l s b v r h e = sym (subst (Shows l s b v) e h) ∙ led_some l s b v
