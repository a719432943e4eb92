-- Laws of the next certificate for a block.
-- Assumes nothing.
use mathlib.Core.Path.{◌≡◌}
use mathlib.Core.Bool.{true, false}
use mathlib.Core.List.{List}
use Prim.Native.Nat.{ℕ, ◌-◌}
use Rattle.rulebook.specs.Tools.{choose}
use Rattle.shown_weights.specs.Weights.{held_shown, next_for}
use Rattle.rulebook.specs.declared.CertificateKind.TheVariants as certificate

-- ---- the next certificate for a block

module _ (ws : List ℕ) (s b : ℕ) where
  pub next_fast : held_shown ws certificate.Notar s b ≡ true → certificate.FastFinal ≡ next_for ws s b
  unfolding next_for choose
  next_fast e = rw e

  pub next_notar_lem : held_shown ws certificate.Notar s b ≡ false → held_shown ws certificate.NotarFallback s b ≡ true → certificate.Notar ≡ next_for ws s b
  unfolding next_for choose
  next_notar_lem e d = rw (e, d)

  pub next_fallback : held_shown ws certificate.Notar s b ≡ false → held_shown ws certificate.NotarFallback s b ≡ false
      → certificate.NotarFallback ≡ next_for ws s b
  unfolding next_for choose
  next_fallback e d = rw (e, d)
