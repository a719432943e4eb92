-- What a word says as a packet: hex digits in either case.
use Rattle.std.specs.Prelude.{◌≡◌, Bool, true, ◌&&◌, List, ℕ, zero, suc, ◌+◌, ◌-◌, ◌*◌, ◌/◌, ◌%◌, ◌≤◌, eqb, leb, ltb, length, get_or, set, Option, Some, None, IfSome}
use Rattle.rulebook.specs.Tools.{choose, all_to}
use Rattle.script.specs.Digits.{is_digit}

-- The value of a hex digit in either case, 16 for any other byte.
unfoldable pub hex_digit : ℕ → ℕ
hex_digit b =
    choose (is_digit b) (b - 48)
    (choose (leb 65 b && leb b 70) (b - 55) (choose (leb 97 b && leb b 102) (b - 87) 16))

-- The byte that the digits at 2 i and 2 i + 1 spell, 256 where one of them is no digit.
unfoldable pub hex_pair : List ℕ → ℕ → ℕ
hex_pair w i =
    let h = hex_digit (get_or w (2 * i) 0) in
    let l = hex_digit (get_or w (2 * i + 1) 0) in
    choose (ltb h 16 && ltb l 16) (16 * h + l) 256

-- A number below a bound: 16 is no digit, and 256 no byte.
unfoldable pub below : ℕ → ℕ → Option ℕ
below n v = choose (ltb v n) (Some v) None

-- "`-` the empty packet".
unfoldable pub is_dash : List ℕ → Bool
is_dash w = eqb (length w) 1 && eqb (get_or w 0 0) 45

-- The first n pairs are hex digits.
unfoldable pub pairs_good : List ℕ → ℕ → Bool
pairs_good w n = all_to n (λ i. leb (hex_pair w i) 255)

-- "an even number of hex digits", and room for the bytes that they spell.
unfoldable pub spells_bytes : List ℕ → ℕ → Bool
spells_bytes w room = eqb (length w % 2) 0 && (leb (length w / 2) room && pairs_good w (length w / 2))

-- The bytes of the first n pairs in front of what was there.
unfoldable pub put_pairs : List ℕ → ℕ → List ℕ → List ℕ
put_pairs w zero out = out
put_pairs w (suc n) out = set (put_pairs w n out) n (hex_pair w n)

-- What putting n pairs asks.
pub record Pairs (w : List ℕ) (n : ℕ) (out : List ℕ) : Type 0 where
  pub digits : 2 * n ≤ length w
  pub room : n ≤ length out
  pub good : pairs_good w n ≡ true

-- What a word says as a packet, and the buffer that its bytes are put into: a word that says none leaves it as it was.
unfoldable pub hex_of : List ℕ → ℕ → Option ℕ
hex_of w room = choose (is_dash w) (Some 0) (choose (spells_bytes w room) (Some (length w / 2)) None)

unfoldable pub hex_into : List ℕ → List ℕ → List ℕ
hex_into w out = choose (is_dash w) out (choose (spells_bytes w (length out)) (put_pairs w (length w / 2) out) out)

-- The answer, the buffer afterwards, and that the bytes lie within it.
pub record HexIn (w out : List ℕ) (r : Option ℕ) (left : List ℕ) : Type 0 where
  pub answer : r ≡ hex_of w (length out)
  pub bytes : left ≡ hex_into w out
  pub within : IfSome r (λ n. n ≤ length left)
