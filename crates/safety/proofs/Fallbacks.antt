-- No fourth own fallback, and each with rule D's weights, proved.
use mathlib.Core.Bool.{not}
use Prim.Native.Nat.{ℕ, ◌≤◌}
use native.Mathlib.Omega.{arith}
use lib.Dec.{T, eqb}
use Rattle.rulebook.specs.Weights.{weight, d_weights}
use Rattle.rulebook.specs.Ledger.{Ledger, fresh, none, cell_at}
use Rattle.rulebook.specs.Pool.{counts, weigh}
use Rattle.rulebook.specs.Rules.{fallback_weights}
use Rattle.safety.specs.Slot.{notar, notar_fallback, skip}
use Rattle.safety.specs.Ballots.{has}
use Rattle.safety.specs.Grounds.{weight_of}
use Rattle.safety.specs.Fallbacks.{NoFourthFallback, OwnFallbacksWeigh}
use Rattle.safety.proofs.Tests.{T_and}
use Rattle.safety.proofs.Weighing.{weights_more, weight_mono}
use Rattle.safety.proofs.Cells.{notar_is}
use Rattle.safety.proofs.Along.{no_fourth_own}
use Rattle.safety.proofs.Behind.{fallback_weights_lem}
use Rattle.safety.proofs.Lives.{life_ready, start_sized, fresh_ready}

-- Rule D's weights over ballots are its weights over cells.
pub weights_back : (l : Ledger) (s b : ℕ) → T (d_weights l.total (weight_of l s (notar b)) (weight_of l s skip)) → T (fallback_weights l s b)
unfolding fallback_weights weigh counts
weights_back l s b t =
    let x = weight l.stakes l.count (λ n. eqb (cell_at l s n).notar b) in
    let y = weight_of l s skip in
    let z = weight_of l s (notar b) in
    let g : z ≤ x = weight_mono l.stakes l.count (λ n. has (cell_at l s n) (notar b)) (λ n. eqb (cell_at l s n).notar b) (λ n u. (notar_is (cell_at l s n) b u).1) in
    weights_more l.total z y x y g (omega arith) t

pub no_fourth_fallback : NoFourthFallback
no_fourth_fallback stakes me genesis start lived s b nb w new =
    let z = start_sized stakes me genesis start in
    let inv = (life_ready me (fresh stakes me genesis) lived (fresh_ready stakes me genesis z)).inv in
    no_fourth_own me _ s b (inv.neat s) inv.sum inv.some (inv.grounds s) nb (fallback_weights_lem _ s b nb w) new

pub own_fallbacks_weigh : OwnFallbacksWeigh
own_fallbacks_weigh stakes me genesis start lived s b nb t =
    let z = start_sized stakes me genesis start in
    let inv = (life_ready me (fresh stakes me genesis) lived (fresh_ready stakes me genesis z)).inv in
    weights_back _ s b (inv.grounds s (notar_fallback b) (T_and (not (none b)) _ nb t)).weights
