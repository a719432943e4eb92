-- Computed cases of calls one after the other on a state of 2,050 words and 1,341 bytes: what each leaves.
use Rattle.std.specs.Prelude.{Bool, not, List, [], ◌∷◌, ℕ, T}
use Rattle.rulebook.specs.PaperNumbers.{check_number}
use Rattle.rulebook.specs.Scripts.{equal, equals, all}
use Rattle.rulebook.specs.Computes.{rules}
use Rattle.pieces.specs.Pieces.{nothing, since, piece_panel}
use Rattle.pieces.specs.State.{mark, nodes, blank, is_sized, is_ready, holds_table, is_whole, with_table, kept_words, kept_front, PieceLeft, first_leaves, piece_leaves, EndLeft, end_checked, end_leaves, words_of, bytes_of}

-- The panel's number, the words and the bytes that a piece leaves, and the end.
abbrev shown : PieceLeft → List (List ℕ)
shown v = ((piece_panel v.answer).number ∷ []) ∷ v.words ∷ v.bytes ∷ []

abbrev ended : EndLeft → List (List ℕ)
ended v = (check_number v.answer ∷ []) ∷ v.words ∷ v.bytes ∷ []

-- The state in which nothing has been taken, and one with bytes under a table of stake 5.
abbrev no_words : List ℕ
no_words = words_of nothing

abbrev no_bytes : List ℕ
no_bytes = bytes_of nothing

abbrev after : List ℕ → List (List ℕ)
after bytes = words_of (since (5 ∷ []) bytes) ∷ bytes_of (since (5 ∷ []) bytes) ∷ []

-- B9's proof in two pieces, the first without bytes, the second with another table; and its end, after which all is 0.
abbrev through : Bool
through =
    let one = piece_leaves no_words no_bytes (5 ∷ []) [] in
    let two = piece_leaves one.words one.bytes (0 ∷ []) (1 ∷ 1 ∷ 7 ∷ 1 ∷ 0 ∷ []) in
    all (equals (shown one) ((0 ∷ []) ∷ after []) ∷ equals (shown two) ((0 ∷ []) ∷ after (1 ∷ 1 ∷ 7 ∷ 1 ∷ 0 ∷ []))
    ∷ equals (ended (end_leaves two.words two.bytes)) ((0 ∷ []) ∷ no_words ∷ no_bytes ∷ []) ∷ [])

-- On short states: words that are not there, a table of three nodes with something behind it; bytes that are 0, and such as a mark could
-- be; a proof that is too light under the state's table.
abbrev parts : Bool
parts =
    all (equal (mark [] ∷ nodes [] ∷ []) (0 ∷ 0 ∷ []) ∷ not (holds_table (4 ∷ 3 ∷ 3 ∷ 4 ∷ 5 ∷ 1 ∷ []))
    ∷ equals (shown (first_leaves (0 ∷ 0 ∷ 0 ∷ 0 ∷ []) (7 ∷ []) (5 ∷ []) (0 ∷ []))) ((0 ∷ []) ∷ (2 ∷ 1 ∷ 5 ∷ 0 ∷ []) ∷ (0 ∷ []) ∷ [])
    ∷ equals (kept_front (2 ∷ []) (1342 ∷ 0 ∷ 1 ∷ []) (5 ∷ []) ∷ kept_front (2 ∷ []) (7 ∷ 0 ∷ 1 ∷ []) (1342 ∷ []) ∷ []) ((1342 ∷ 5 ∷ 1 ∷ []) ∷ (7 ∷ 1342 ∷ 1 ∷ []) ∷ [])
    ∷ equal (check_number (end_checked (6 ∷ 2 ∷ 1 ∷ 4 ∷ []) (1 ∷ 1 ∷ 7 ∷ 1 ∷ 0 ∷ [])).answer ∷ []) (15 ∷ []) ∷ [])

corners_of_calls : T (all (through ∷ parts ∷ []))
unfolding rules piece_panel blank is_sized is_ready holds_table is_whole with_table kept_words kept_front first_leaves piece_leaves end_leaves words_of bytes_of
corners_of_calls = tt
