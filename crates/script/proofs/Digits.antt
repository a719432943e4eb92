-- One turn of the loop over decimal digits. Assumes nothing.
use Rattle.std.specs.Prelude.{Some, None}
use mathlib.Core.Path.{◌≡◌, refl, sym, ap, ◌∙◌}
use mathlib.Core.List.{List, [], ◌∷◌}
use mathlib.Core.Bool.{true, false}
use Prim.Native.Nat.{ℕ, ◌+◌, ◌-◌, ◌*◌, ◌<◌, ◌≤◌}
use native.Mathlib.Numerals.{add-one}
use native.Mathlib.Omega.{arith}
use lib.ListN.{length, drop, get_or, drop_of_length-le}
use lib.Seq.{drop-cons}
use borrow.Author.Tests.{le-leb, lt-leb}
use Rattle.rule_laws.proofs.ToolLaws.{given_on, given_off}
use Rattle.std.specs.Char.{is_ascii_digit}
use Rattle.script.specs.Digits.{is_digit, fits64, decimal_from, decimal_of}

-- An empty word is no number; any other is read from its front.
pub decimal_none : (s : List ℕ) → length s ≡ 0 → None ≡ decimal_of s
unfolding decimal_of
decimal_none [] h = refl
decimal_none (b ∷ s) h = absurd (omega arith)

pub decimal_start : (s : List ℕ) → (length s ≡ 0 → ⊥) → decimal_of s ≡ decimal_from 0 (drop 0 s)
unfolding decimal_of
decimal_start [] h = absurd (h refl)
decimal_start (b ∷ s) h = refl

module _ (s : List ℕ) (i v : ℕ) where
  pub decimal_end : length s ≤ i → decimal_from v (drop i s) ≡ Some v
  unfolding decimal_from
  decimal_end h = rw (drop_of_length-le s h)

  module _ (h : i < length s) where
    abbrev b : ℕ
    b = get_or s i 0

    at_i : decimal_from v (drop i s) ≡ decimal_from v (b ∷ drop (i + 1) s)
    at_i = rw (add-one, drop-cons s i 0 h)

    pub decimal_other : is_ascii_digit b ≡ false → decimal_from v (drop i s) ≡ None
    unfolding decimal_from is_digit
    decimal_other t = at_i ∙ given_off (is_digit b) None _ t

    pub decimal_large : is_ascii_digit b ≡ true → (10 * v + (b - 48) < 18446744073709551616 → ⊥) → decimal_from v (drop i s) ≡ None
    unfolding decimal_from is_digit fits64
    decimal_large t f =
        at_i ∙ (given_on (is_digit b) None _ t ∙ given_off (fits64 (10 * v + (b - 48))) None _ (lt-leb (10 * v + (b - 48)) 18446744073709551615 (omega arith)))

    pub decimal_more : (w : ℕ) → is_ascii_digit b ≡ true → w ≡ 10 * v + (b - 48) → w < 18446744073709551616 → decimal_from v (drop i s) ≡ decimal_from w (drop (i + 1) s)
    unfolding decimal_from is_digit fits64
    decimal_more w t e f =
        at_i
        ∙ (given_on (is_digit b) None _ t ∙ given_on (fits64 (10 * v + (b - 48))) None _ (le-leb (10 * v + (b - 48)) 18446744073709551615 (omega arith)))
        ∙ ap (λ (x : ℕ). decimal_from x (drop (i + 1) s)) (sym e)
