-- Computed cases of proofs in pieces.
use Rattle.std.specs.Prelude.{Bool, List, [], ◌∷◌, ◌++◌, ℕ, ◌+◌, ◌*◌, T, eqb}
use Rattle.rulebook.specs.PaperNumbers.{check_number, check_missing}
use Rattle.rulebook.specs.Scripts.{equal, all}
use Rattle.rulebook.specs.Computes.{rules}
use Rattle.pieces.specs.Pieces.{nothing, after_piece, piece_answer, end_answer, piece_panel, Asked, piece, end, Said, of_piece, of_end, said, after_call, said_by}
use Rattle.pieces.specs.State.{front_bytes}

-- Each answer as a number: a piece's, or the end's with what is missing beside it.
unfoldable pub shown_said : Said → List ℕ
shown_said (of_piece r) = (piece_panel r).number ∷ []
shown_said (of_end r) = check_number r ∷ check_missing r ∷ []

unfoldable pub shown_all : List Said → List ℕ
shown_all [] = []
shown_all (s ∷ later) = shown_said s ++ shown_all later

abbrev answers : List Asked → List ℕ
answers asks = shown_all (said_by nothing asks)

abbrev one : List ℕ
one = 5 ∷ []

-- B9's proof whole, cut in the middle, byte by byte, with pieces without bytes.
abbrev cuts : Bool
cuts =
    all (equal (answers (piece one (1 ∷ 1 ∷ 7 ∷ 1 ∷ 0 ∷ []) ∷ end ∷ [])) (0 ∷ 0 ∷ 0 ∷ [])
    ∷ equal (answers (piece one (1 ∷ 1 ∷ []) ∷ piece [] (7 ∷ 1 ∷ 0 ∷ []) ∷ end ∷ [])) (0 ∷ 0 ∷ 0 ∷ 0 ∷ [])
    ∷ equal (answers (piece one [] ∷ piece [] (1 ∷ []) ∷ piece [] (1 ∷ []) ∷ piece [] [] ∷ piece [] (7 ∷ []) ∷ piece [] (1 ∷ []) ∷ piece [] (0 ∷ []) ∷ end ∷ []))
    (0 ∷ 0 ∷ 0 ∷ 0 ∷ 0 ∷ 0 ∷ 0 ∷ 0 ∷ 0 ∷ []) ∷ [])

-- The packet's own refusals come at the end: cut short 12, a long number 13, too light 15 with its figure, bytes past it 12.
abbrev refusals : Bool
refusals =
    all (equal (answers (piece one (1 ∷ 1 ∷ 7 ∷ []) ∷ end ∷ [])) (0 ∷ 12 ∷ 0 ∷ [])
    ∷ equal (answers (piece one (128 ∷ []) ∷ piece one (0 ∷ []) ∷ end ∷ [])) (0 ∷ 0 ∷ 13 ∷ 0 ∷ [])
    ∷ equal (answers (piece one (2 ∷ 1 ∷ 7 ∷ 0 ∷ 0 ∷ []) ∷ end ∷ [])) (0 ∷ 15 ∷ 3 ∷ [])
    ∷ equal (answers (piece one (1 ∷ 1 ∷ 7 ∷ 1 ∷ 0 ∷ []) ∷ piece one (0 ∷ []) ∷ end ∷ [])) (0 ∷ 0 ∷ 12 ∷ 0 ∷ []) ∷ [])

-- The first piece's table stays, whatever comes later; a table that is refused takes nothing; a piece without bytes is a piece.
abbrev tables : Bool
tables =
    all (equal (answers (piece one (1 ∷ 1 ∷ 7 ∷ 1 ∷ 0 ∷ []) ∷ piece (0 ∷ []) [] ∷ piece (9 ∷ 9 ∷ []) [] ∷ end ∷ [])) (0 ∷ 0 ∷ 0 ∷ 0 ∷ 0 ∷ [])
    ∷ equal (answers (piece (0 ∷ []) (1 ∷ []) ∷ end ∷ piece [] (1 ∷ []) ∷ end ∷ [])) (1 ∷ 12 ∷ 0 ∷ 1 ∷ 12 ∷ 0 ∷ [])
    ∷ equal (answers (piece (0 ∷ []) (1 ∷ []) ∷ piece one (1 ∷ 1 ∷ 7 ∷ 1 ∷ 0 ∷ []) ∷ end ∷ [])) (1 ∷ 0 ∷ 0 ∷ 0 ∷ [])
    ∷ equal (answers (piece one [] ∷ piece (0 ∷ []) (1 ∷ 1 ∷ 7 ∷ 1 ∷ 0 ∷ []) ∷ end ∷ [])) (0 ∷ 0 ∷ 0 ∷ 0 ∷ []) ∷ [])

-- After the end it starts anew; an end with no piece before it is 12.
abbrev ends : Bool
ends =
    all (equal (answers (end ∷ end ∷ [])) (12 ∷ 0 ∷ 12 ∷ 0 ∷ [])
    ∷ equal (answers (piece one (1 ∷ []) ∷ end ∷ end ∷ piece one (1 ∷ 1 ∷ 7 ∷ 1 ∷ 0 ∷ []) ∷ end ∷ [])) (0 ∷ 12 ∷ 0 ∷ 12 ∷ 0 ∷ 0 ∷ 0 ∷ 0 ∷ []) ∷ [])

-- The kept front: two certificates of 67 numbers of ten bytes, and a byte.
abbrev room : Bool
room = eqb front_bytes (2 * (67 * 10) + 1)

corners_of_pieces : T (all (cuts ∷ refusals ∷ tables ∷ ends ∷ room ∷ []))
unfolding rules shown_said shown_all after_piece piece_answer end_answer piece_panel said after_call said_by
corners_of_pieces = tt
