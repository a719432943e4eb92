-- Numbers and bytes as text: decimal digits, pairs of hex digits, records.
use Rattle.std.specs.Prelude.{List, [], ◌∷◌, ◌++◌, ℕ, zero, suc, ◌+◌, ◌*◌, ◌/◌, ◌%◌, min, leb, eqb, ltb, length, get_or}
use Rattle.rulebook.specs.Tools.{choose, whenever}

-- A digit of base ten or sixteen: 0 to 9, then A to F.
unfoldable pub glyph : ℕ → ℕ
glyph d = choose (ltb d 10) (48 + d) (55 + d)

-- The digits of n, highest first, at most f of them before the last.
unfoldable pub digits_of : ℕ → ℕ → List ℕ
digits_of zero n = glyph n ∷ []
digits_of (suc f) n = whenever (leb 10 n) (λ _. digits_of f (n / 10) ++ (glyph (n % 10) ∷ [])) (glyph n ∷ [])

-- A number in decimal, without leading zeros; it has no more digits than it counts.
unfoldable pub decimal : ℕ → List ℕ
decimal n = digits_of n n

-- A byte as two hex digits, the higher first.
unfoldable pub hex_pair : ℕ → List ℕ
hex_pair b = glyph (b / 16) ∷ glyph (b % 16) ∷ []

-- The first n bytes as pairs of hex digits, in order.
unfoldable pub hex_pairs : List ℕ → ℕ → List ℕ
hex_pairs bytes zero = []
hex_pairs bytes (suc n) = hex_pairs bytes n ++ hex_pair (get_or bytes n 0)

-- A packet in hex; a dash for the empty one.
unfoldable pub hex_text : List ℕ → List ℕ
hex_text bytes = choose (eqb (length bytes) 0) (45 ∷ []) (hex_pairs bytes (length bytes))

-- " k,s,b": record number i of an outbox, three words each.
unfoldable pub record_text : List ℕ → ℕ → List ℕ
record_text outbox i =
    (32 ∷ [])
    ++ (decimal (get_or outbox (3 * i) 0)
    ++ ((44 ∷ []) ++ (decimal (get_or outbox (3 * i + 1) 0) ++ ((44 ∷ []) ++ decimal (get_or outbox (3 * i + 2) 0)))))

-- The first n records.
unfoldable pub records_to : List ℕ → ℕ → List ℕ
records_to outbox zero = []
records_to outbox (suc n) = records_to outbox n ++ record_text outbox n

-- The first n records, as many of them as the outbox has.
unfoldable pub records_text : List ℕ → ℕ → List ℕ
records_text outbox n = records_to outbox (min n (length outbox / 3))
