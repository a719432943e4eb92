-- No fourth, over tests as this crate writes them.
use mathlib.Core.List.{List}
use Prim.Native.Nat.{ℕ, ◌≤◌}
use lib.Dec.{T}
use Rattle.rulebook.specs.Weights.{weight, total_to, d_weights}
use Rattle.rule_laws.proofs.FourthLaws as laws
use Rattle.safety.specs.Slot.{Test}
use Rattle.safety.proofs.Tests.{T_true, true_t}

-- No node passes both.
abbrev pub Apart : Test → Test → Type 0
Apart p q = (n : ℕ) → T (p n) → T (q n) → ⊥

apart : (k : ℕ) (p q : Test) → Apart p q → laws.Apart k p q
apart k p q f n l t u = f n (true_t (p n) t) (true_t (q n) u)

pub no_fourth : (ws : List ℕ) (k : ℕ) → 1 ≤ total_to ws k → (a b c d s : Test) → Apart a b → Apart a c → Apart a d → Apart a s → Apart b c → Apart b d
    → Apart b s → Apart c d → Apart c s → Apart d s → T (d_weights (total_to ws k) (weight ws k a) (weight ws k s))
    → T (d_weights (total_to ws k) (weight ws k b) (weight ws k s)) → T (d_weights (total_to ws k) (weight ws k c) (weight ws k s))
    → ¬ T (d_weights (total_to ws k) (weight ws k d) (weight ws k s))
no_fourth ws k pos a b c d s ab ac ad az bc bd bz cd cz dz ha hb hc hd =
    laws.no_fourth ws k pos a b c d s (apart k a b ab) (apart k a c ac) (apart k a d ad) (apart k a s az) (apart k b c bc) (apart k b d bd) (apart k b s bz)
    (apart k c d cd) (apart k c s cz) (apart k d s dz) (T_true _ ha) (T_true _ hb) (T_true _ hc) (T_true _ hd)
