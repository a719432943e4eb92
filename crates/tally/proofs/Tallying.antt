-- What a vote adds is light, and hangs on its block's weight for a notar vote alone. Assumes nothing.
use mathlib.Core.Path.{◌≡◌, refl}
use Prim.Native.Nat.{ℕ, ◌≤◌, ◌^◌}
use native.Mathlib.Omega.{arith}
use Rattle.rulebook.specs.declared.Cell.{Cell}
use Rattle.rulebook.specs.declared.VoteKind.{VoteKind}
use Rattle.rulebook.specs.declared.VoteKind.TheVariants as vote
use Rattle.rulebook.specs.Ledger.{none}
use Rattle.rulebook.specs.Cards.{Light, adds}
use Rattle.rule_laws.proofs.ToolLaws.{part_le}

-- What a vote adds is light where the stake is.
pub adds_light : (c : Cell) (k : VoteKind) (b w v : ℕ) → w ≤ 2 ^ 48 → Light (adds c k b w v)
unfolding adds
adds_light c vote.Notar b w v q = record { skip = omega arith; finals = omega arith; skipcert = omega arith }
adds_light c vote.NotarFallback b w v q = record { skip = omega arith; finals = omega arith; skipcert = omega arith }
adds_light c vote.Skip b w v q = record { skip = q; finals = omega arith; skipcert = omega (arith, part_le (none c.skipfallback) w) }
adds_light c vote.SkipFallback b w v q = record { skip = omega arith; finals = omega arith; skipcert = omega (arith, part_le (none c.skip) w) }
adds_light c vote.Final b w v q = record { skip = omega arith; finals = q; skipcert = omega arith }
adds_light c vote.Other b w v q = record { skip = omega arith; finals = omega arith; skipcert = omega arith }

-- Only a notar vote asks what its block weighs so far.
pub adds_other : (c : Cell) (k : VoteKind) (b w v u : ℕ) → (k ≡ vote.Notar → ⊥) → adds c k b w v ≡ adds c k b w u
unfolding adds
adds_other c vote.Notar b w v u n = absurd (n refl)
adds_other c vote.NotarFallback b w v u n = refl
adds_other c vote.Skip b w v u n = refl
adds_other c vote.SkipFallback b w v u n = refl
adds_other c vote.Final b w v u n = refl
adds_other c vote.Other b w v u n = refl
