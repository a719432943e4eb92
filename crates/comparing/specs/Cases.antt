-- Computed cases of a comparison's line, beside the text as a reader sees it, and of a word's bytes.
use Rattle.std.specs.Prelude.{Bool, [], ◌∷◌, T}
use Rattle.rulebook.specs.Tools.{choose, whenever}
use Rattle.rulebook.specs.Scripts.{equal, all}
use Rattle.lines.specs.Text.{glyph, digits_of, decimal}
use Rattle.lines.specs.Cases.{reads}
use Rattle.comparing.specs.Compared.{parts_to, line_text, lines_text, differ_line, bytes_of, word_bytes, words_bytes}

-- No line, one of each side, other stake tables, and both refusals, which list nothing.
abbrev lines : Bool
lines =
    all (reads (differ_line 0 0 (7 ∷ [])) "0 0\n"
    ∷ reads (differ_line 0 2 (1 ∷ 2 ∷ 3 ∷ 0 ∷ 1 ∷ 16 ∷ 63 ∷ 2 ∷ 7001 ∷ 2 ∷ 9 ∷ 9 ∷ 9 ∷ 9 ∷ 9 ∷ [])) "0 2 1,2,3,0,1 16,63,2,7001,2\n"
    ∷ reads (differ_line 0 1 (0 ∷ 0 ∷ 0 ∷ 0 ∷ 0 ∷ [])) "0 1 0,0,0,0,0\n" ∷ reads (differ_line 17 1 (1 ∷ 2 ∷ 3 ∷ 0 ∷ 1 ∷ [])) "17 1\n"
    ∷ reads (differ_line 9 15361 (1 ∷ 2 ∷ 3 ∷ 0 ∷ 1 ∷ [])) "9 15361\n" ∷ [])

-- The lowest byte comes first, and the first word.
abbrev bytes : Bool
bytes =
    all (equal (words_bytes (72623859790382856 ∷ 1 ∷ [])) (8 ∷ 7 ∷ 6 ∷ 5 ∷ 4 ∷ 3 ∷ 2 ∷ 1 ∷ 1 ∷ 0 ∷ 0 ∷ 0 ∷ 0 ∷ 0 ∷ 0 ∷ 0 ∷ [])
    ∷ equal (word_bytes 18446744073709551615) (255 ∷ 255 ∷ 255 ∷ 255 ∷ 255 ∷ 255 ∷ 255 ∷ 255 ∷ []) ∷ [])

cases : T (all (lines ∷ bytes ∷ []))
unfolding choose whenever glyph digits_of decimal parts_to line_text lines_text differ_line bytes_of word_bytes words_bytes
cases = tt
