-- What an answer's number on the panel says of the answer.
use Rattle.std.specs.Prelude.{Result, Ok, Err}
use mathlib.Core.Path.{◌≡◌, refl}
use mathlib.Core.List.{List}
use Prim.Native.Nat.{ℕ, ◌≤◌}
use native.Mathlib.Omega.{arith}
use Rattle.rulebook.specs.declared.Refusal.{Refusal}
use Rattle.rulebook.specs.declared.Refusal.TheVariants as refusal
use Rattle.rulebook.specs.PaperNumbers.{refusal_number, answer_number, answer_values}

-- A refusal's number is not 0, so 0 is an acceptance.
pub refusal_numbered : (r : Refusal) → 1 ≤ refusal_number r
unfolding refusal_number
refusal_numbered refusal.BadSizes = omega arith
refusal_numbered refusal.BadNode = omega arith
refusal_numbered refusal.BadSlot = omega arith
refusal_numbered refusal.BadKind = omega arith
refusal_numbered refusal.BadBlock = omega arith
refusal_numbered refusal.OwnName = omega arith
refusal_numbered refusal.AlreadyKept = omega arith
refusal_numbered refusal.OtherStands = omega arith
refusal_numbered refusal.NoRoom = omega arith
refusal_numbered refusal.NotArmed = omega arith
refusal_numbered refusal.BadParent = omega arith
refusal_numbered refusal.BadLength = omega arith
refusal_numbered refusal.BadNumber = omega arith
refusal_numbered refusal.BadSigners = omega arith
refusal_numbered (refusal.TooLight missing) = omega arith
refusal_numbered refusal.NotAProof = omega arith
refusal_numbered refusal.BadRecord = omega arith
refusal_numbered refusal.NotHeld = omega arith

module _ {X : Type 0} where
  pub refused_told : (a : Result X Refusal) → ¬ (answer_number a ≡ 0) → (r : Refusal) × (a ≡ Err r)
  refused_told (Ok x) h = absurd (h refl)
  refused_told (Err r) h = (r, refl)

  pub done_told : (a : Result X Refusal) → answer_number a ≡ 0 → (x : X) × (a ≡ Ok x)
  done_told (Ok x) e = (x, refl)
  done_told (Err r) e = absurd (omega (arith, refusal_numbered r))

  -- Beside a refusal stand zeros.
  pub zeros_told : (zeros : List ℕ) (values : X → List ℕ) (a : Result X Refusal) → ¬ (answer_number a ≡ 0) → answer_values zeros values a ≡ zeros
  zeros_told zeros values (Ok x) h = absurd (h refl)
  zeros_told zeros values (Err r) h = refl
