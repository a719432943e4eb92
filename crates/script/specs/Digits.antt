-- What a word says: a decimal number of at most 64 bits.
use Rattle.std.specs.Prelude.{Bool, ◌&&◌, List, [], ◌∷◌, ℕ, ◌+◌, ◌-◌, ◌*◌, leb, Option, Some, None}
use Rattle.rulebook.specs.Tools.{whenever}

unfoldable pub is_digit : ℕ → Bool
is_digit b = leb 48 b && leb b 57

unfoldable pub fits64 : ℕ → Bool
fits64 v = leb v 18446744073709551615

-- The number whose digits so far say v.
unfoldable pub decimal_from : ℕ → List ℕ → Option ℕ
decimal_from v [] = Some v
decimal_from v (b ∷ bs) =
    whenever (is_digit b)
    (λ _. whenever (fits64 (10 * v + (b - 48))) (λ _. decimal_from (10 * v + (b - 48)) bs) None)
    None

-- At least one digit, nothing but digits, at most 64 bits.
unfoldable pub decimal_of : List ℕ → Option ℕ
decimal_of [] = None
decimal_of (b ∷ bs) = decimal_from 0 (b ∷ bs)
