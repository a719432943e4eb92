-- Computed cases of the state between the calls: what each of its words and bytes stands for, what keeps a piece's bytes, what the calls
-- leave. Where a definition does not ask for the state's full length a short one stands for it.
use Rattle.std.specs.Prelude.{Bool, not, List, [], ◌∷◌, ◌++◌, ℕ, replicate, T}
use Rattle.rulebook.specs.PaperNumbers.{check_number}
use Rattle.rulebook.specs.Scripts.{equal, equals, all}
use Rattle.rulebook.specs.Computes.{rules}
use Rattle.pieces.specs.Pieces.{nothing, since, piece_panel, Asked, piece, end, Piece, calls, packet}
use Rattle.pieces.specs.State.{state_words, mark, kept, nodes, table, front, blank, is_sized, is_ready, holds_table, is_whole, with_table, fitting, kept_words, kept_front, PieceLeft, piece_taken, first_leaves, piece_leaves, EndLeft, end_checked, end_leaves, words_of, bytes_of}

-- Two bytes are kept, and a table of two nodes with two places past it.
abbrev words : List ℕ
words = 3 ∷ 2 ∷ 6 ∷ 4 ∷ 0 ∷ 0 ∷ []

abbrev bytes : List ℕ
bytes = 11 ∷ 12 ∷ 0 ∷ 0 ∷ 0 ∷ 0 ∷ []

abbrev parts : Bool
parts =
    all (equal (mark words ∷ kept words ∷ nodes words ∷ state_words ∷ []) (3 ∷ 2 ∷ 2 ∷ 2050 ∷ []) ∷ equal (table words) (6 ∷ 4 ∷ []) ∷ equal (front words bytes) (11 ∷ 12 ∷ []) ∷ equal (front (0 ∷ []) bytes) []
    ∷ blank [] ∷ blank (0 ∷ 0 ∷ []) ∷ not (blank (0 ∷ 1 ∷ [])) ∷ not (blank (1 ∷ 0 ∷ [])) ∷ [])

-- 2,050 words and 1,341 bytes, one less or more of either is 17.
abbrev sizes : Bool
sizes =
    let sized : ℕ → ℕ → Bool = (λ n m. is_sized (replicate n 0) (replicate m 0)) in
    all (sized 2050 1341 ∷ not (sized 2049 1341) ∷ not (sized 2051 1341) ∷ not (sized 2050 1340) ∷ not (sized 2050 1342) ∷ not (is_ready words bytes) ∷ not (is_whole words bytes) ∷ [])

-- A table that 1 lets pass, of at most 2,048 nodes, and 0 past it.
abbrev tables : Bool
tables =
    all (holds_table words ∷ not (holds_table (3 ∷ 2 ∷ 6 ∷ 0 ∷ 0 ∷ [])) ∷ not (holds_table (3 ∷ 2 ∷ 6 ∷ 4 ∷ 0 ∷ 1 ∷ [])) ∷ not (holds_table (3 ∷ 1 ∷ 6 ∷ 4 ∷ 0 ∷ [])) ∷ not (holds_table (3 ∷ 0 ∷ 0 ∷ []))
    ∷ not (holds_table (3 ∷ 2049 ∷ 6 ∷ 4 ∷ [])) ∷ equal (with_table (0 ∷ 0 ∷ 0 ∷ 0 ∷ 0 ∷ []) (6 ∷ 4 ∷ [])) (1 ∷ 2 ∷ 6 ∷ 4 ∷ 0 ∷ []) ∷ [])

-- A piece's bytes stand behind the kept ones, as many as there is room for: of 1,341 places 1,340, or all, are taken in the last two.
abbrev keeping : Bool
keeping =
    all (equal (fitting words (7 ∷ 8 ∷ 9 ∷ []) ∷ fitting (1341 ∷ []) (7 ∷ 8 ∷ 9 ∷ []) ∷ fitting (1342 ∷ []) (7 ∷ 8 ∷ 9 ∷ []) ∷ []) (3 ∷ 1 ∷ 0 ∷ []) ∷ equal (kept_words words (7 ∷ 8 ∷ 9 ∷ [])) (6 ∷ 2 ∷ 6 ∷ 4 ∷ 0 ∷ 0 ∷ [])
    ∷ equal (kept_words (1341 ∷ 9 ∷ []) (7 ∷ 8 ∷ 9 ∷ [])) (1342 ∷ 9 ∷ []) ∷ equal (kept_front words bytes (7 ∷ 8 ∷ 9 ∷ [])) (11 ∷ 12 ∷ 7 ∷ 8 ∷ 9 ∷ 0 ∷ []) ∷ equal (kept_front (1342 ∷ []) bytes (7 ∷ 8 ∷ [])) bytes ∷ [])

-- The panel's number, the words and the bytes that a piece leaves, and the end.
abbrev shown : PieceLeft → List (List ℕ)
shown v = ((piece_panel v.answer).number ∷ []) ∷ v.words ∷ v.bytes ∷ []

abbrev ended : EndLeft → List (List ℕ)
ended v = (check_number v.answer ∷ []) ∷ v.words ∷ v.bytes ∷ []

-- A later piece; a first one, with a table and with one that is 1; a piece and an end of a state that is none, which stay as found; the
-- end of B9's proof, after which all is 0.
abbrev left : Bool
left =
    let zeros : List ℕ = 0 ∷ 0 ∷ 0 ∷ 0 ∷ [] in
    all (equals (shown (piece_taken words bytes (7 ∷ []))) ((0 ∷ []) ∷ (4 ∷ 2 ∷ 6 ∷ 4 ∷ 0 ∷ 0 ∷ []) ∷ (11 ∷ 12 ∷ 7 ∷ 0 ∷ 0 ∷ 0 ∷ []) ∷ [])
    ∷ equals (shown (first_leaves zeros (0 ∷ 0 ∷ 0 ∷ []) (5 ∷ []) (7 ∷ 8 ∷ []))) ((0 ∷ []) ∷ (3 ∷ 1 ∷ 5 ∷ 0 ∷ []) ∷ (7 ∷ 8 ∷ 0 ∷ []) ∷ [])
    ∷ equals (shown (first_leaves zeros (0 ∷ 0 ∷ 0 ∷ []) (0 ∷ []) (7 ∷ 8 ∷ []))) ((1 ∷ []) ∷ zeros ∷ (0 ∷ 0 ∷ 0 ∷ []) ∷ [])
    ∷ equals (shown (piece_leaves words bytes (5 ∷ []) (7 ∷ []))) ((17 ∷ []) ∷ words ∷ bytes ∷ []) ∷ equals (ended (end_leaves words bytes)) ((17 ∷ []) ∷ words ∷ bytes ∷ [])
    ∷ equals (ended (end_checked (6 ∷ 1 ∷ 5 ∷ 0 ∷ []) (1 ∷ 1 ∷ 7 ∷ 1 ∷ 0 ∷ 0 ∷ []))) ((0 ∷ []) ∷ zeros ∷ (0 ∷ 0 ∷ 0 ∷ 0 ∷ 0 ∷ 0 ∷ []) ∷ [])
    ∷ equals (ended (end_checked (5 ∷ 1 ∷ 5 ∷ 0 ∷ []) (1 ∷ 1 ∷ 7 ∷ 1 ∷ 0 ∷ 0 ∷ []))) ((12 ∷ []) ∷ zeros ∷ (0 ∷ 0 ∷ 0 ∷ 0 ∷ 0 ∷ 0 ∷ []) ∷ []) ∷ [])

-- How nothing, a table with three bytes, and a table with a byte more than is kept are spelled.
abbrev spelled : Bool
spelled =
    let long = since (5 ∷ []) (replicate 1342 7) in
    all (equal (words_of nothing) (replicate 2050 0) ∷ equal (bytes_of nothing) (replicate 1341 0)
    ∷ equal (words_of (since (6 ∷ 4 ∷ []) (7 ∷ 8 ∷ 9 ∷ []))) ((4 ∷ 2 ∷ 6 ∷ 4 ∷ []) ++ replicate 2046 0) ∷ equal (bytes_of (since (6 ∷ 4 ∷ []) (7 ∷ 8 ∷ 9 ∷ []))) ((7 ∷ 8 ∷ 9 ∷ []) ++ replicate 1338 0)
    ∷ equal (words_of long) ((1342 ∷ 1 ∷ 5 ∷ []) ++ replicate 2047 0) ∷ equal (bytes_of long) (replicate 1341 7) ∷ [])

-- A call as numbers: 1, the table and the bytes of a piece, 2 of the end.
abbrev called : List Asked → List (List ℕ)
called [] = []
called (piece stakes bs ∷ later) = (1 ∷ []) ∷ stakes ∷ bs ∷ called later
called (end ∷ later) = (2 ∷ []) ∷ called later

-- The calls of two pieces, each with its table, and the packet that they are.
abbrev in_turn : Bool
in_turn =
    let two : List Piece = record { stakes = 5 ∷ []; bytes = 7 ∷ 8 ∷ [] } ∷ record { stakes = 6 ∷ []; bytes = 9 ∷ [] } ∷ [] in
    all (equals (called (calls two)) ((1 ∷ []) ∷ (5 ∷ []) ∷ (7 ∷ 8 ∷ []) ∷ (1 ∷ []) ∷ (6 ∷ []) ∷ (9 ∷ []) ∷ []) ∷ equal (packet two) (7 ∷ 8 ∷ 9 ∷ []) ∷ [])

corners_of_state : T (all (parts ∷ sizes ∷ tables ∷ keeping ∷ left ∷ spelled ∷ in_turn ∷ []))
unfolding rules piece_panel calls packet blank is_sized is_ready holds_table is_whole with_table kept_words kept_front first_leaves piece_leaves end_leaves words_of bytes_of
corners_of_state = tt
