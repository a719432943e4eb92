-- What stands aside, the line that answers a comparison, and a saved record's bytes.
use Rattle.std.specs.Prelude.{◌≡◌, List, [], ◌∷◌, ◌++◌, ℕ, zero, suc, ◌+◌, ◌*◌, ◌/◌, ◌%◌, min, eqb, length, get_or}
use Rattle.std.proofs.lemmas.List.Edits.{sets}
use Rattle.rulebook.specs.Tools.{choose}
use Rattle.soundness.specs.Sound.{sound_words}
use Rattle.lines.specs.Text.{decimal}

-- A record is copied to the front of the words aside; 17 leaves these as they were.
pub record SetAside (rec kept : List ℕ) (r : ℕ) (left : List ℕ) : Type 0 where
  pub number : r ≡ choose (sound_words rec) 0 17
  pub words : left ≡ choose (sound_words rec) (sets kept 0 rec) kept

-- The texts 0 to n - 1, in order.
unfoldable pub parts_to : (ℕ → List ℕ) → ℕ → List ℕ
parts_to part zero = []
parts_to part (suc n) = parts_to part n ++ part n

-- A byte, and a number after it.
abbrev after : ℕ → ℕ → List ℕ
after b n = (b ∷ []) ++ decimal n

-- " s,n,k,b,side": line number i of a list, five words each.
unfoldable pub line_text : List ℕ → ℕ → List ℕ
line_text list i =
    after 32 (get_or list (5 * i) 0)
    ++ (after 44 (get_or list (5 * i + 1) 0)
    ++ (after 44 (get_or list (5 * i + 2) 0) ++ (after 44 (get_or list (5 * i + 3) 0) ++ after 44 (get_or list (5 * i + 4) 0))))

-- The first n lines, as many of them as the list has.
unfoldable pub lines_text : List ℕ → ℕ → List ℕ
lines_text list n = parts_to (line_text list) (min n (length list / 5))

-- "0 N s,n,k,b,side ..", "17 SIDE" or "9 LINES".
unfoldable pub differ_line : ℕ → ℕ → List ℕ → List ℕ
differ_line n beside list = decimal n ++ (after 32 beside ++ (lines_text list (choose (eqb n 0) beside 0) ++ (10 ∷ [])))

-- So many of a word's bytes, lowest first.
unfoldable pub bytes_of : ℕ → ℕ → List ℕ
bytes_of zero w = []
bytes_of (suc n) w = (w % 256 ∷ []) ++ bytes_of n (w / 256)

-- A word is eight bytes.
unfoldable pub word_bytes : ℕ → List ℕ
word_bytes w = bytes_of 8 w

-- The words one after another.
unfoldable pub words_bytes : List ℕ → List ℕ
words_bytes words = parts_to (λ i. word_bytes (get_or words i 0)) (length words)
