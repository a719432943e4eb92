-- "Let the checker take the packet piece by piece, a piece without bytes among them, with an end call": what each call answers, over the
-- concatenation of the pieces.
use Rattle.std.specs.Prelude.{List, [], ◌∷◌, ◌++◌, ℕ, length, ⊤, Result, Ok, Err}
use Rattle.rulebook.specs.declared.Refusal.TheVariants as refusal
use Rattle.rulebook.specs.Tools.{whenever}
use Rattle.rulebook.specs.Weights.{stakes_fit}
use Rattle.rulebook.specs.PaperNumbers.{Panel, panel_of}
use Rattle.rulebook.specs.Checker.{check_proof}
use Rattle.rulebook.specs.declared.Accepted.{Accepted}
use Rattle.rulebook.specs.declared.Refusal.{Refusal}

-- What was taken since the last end: nothing, or the first piece's table and all bytes since then.
pub data Taken : Type 0 where
  nothing : Taken
  since : (table bytes : List ℕ) → Taken

-- "The table is taken with the first call and stays until the end call"; "A table that is refused with 1 is refused at the first call and
-- nothing is taken".
unfoldable pub after_piece : Taken → List ℕ → List ℕ → Taken
after_piece nothing stakes bytes = whenever (stakes_fit stakes (length stakes)) (λ _. since stakes bytes) nothing
after_piece (since table bytes) stakes more = since table (bytes ++ more)

-- "before it the answer is "more", whatever has been seen".
unfoldable pub piece_answer : Taken → List ℕ → Result ⊤ Refusal
piece_answer nothing stakes = whenever (stakes_fit stakes (length stakes)) (λ _. (Ok tt)) (Err refusal.BadSizes)
piece_answer (since table bytes) stakes = Ok tt

-- "the end call gives the same answer as the whole packet would"; "An end call with no piece taken before it is 12".
unfoldable pub end_answer : Taken → Result Accepted Refusal
end_answer nothing = Err refusal.BadLength
end_answer (since table bytes) = check_proof table bytes

-- "more" is 0 on the panel, with no value beside it: the piece is done.
unfoldable pub piece_panel : Result ⊤ Refusal → Panel
piece_panel a = panel_of [] (λ more. []) a

-- ---- a sequence of calls

-- What is called: a piece, with the table that comes with it, or the end.
pub data Asked : Type 0 where
  piece : (stakes bytes : List ℕ) → Asked
  end : Asked

-- What it answers.
pub data Said : Type 0 where
  of_piece : Result ⊤ Refusal → Said
  of_end : Result Accepted Refusal → Said

unfoldable pub said : Taken → Asked → Said
said t (piece stakes bytes) = of_piece (piece_answer t stakes)
said t end = of_end (end_answer t)

-- "After the end it starts anew."
unfoldable pub after_call : Taken → Asked → Taken
after_call t (piece stakes bytes) = after_piece t stakes bytes
after_call t end = nothing

-- What a sequence of calls answers, one after the other, and what has been taken after it.
unfoldable pub said_by : Taken → List Asked → List Said
said_by t [] = []
said_by t (a ∷ later) = said t a ∷ said_by (after_call t a) later

unfoldable pub after_calls : Taken → List Asked → Taken
after_calls t [] = t
after_calls t (a ∷ later) = after_calls (after_call t a) later

-- ---- pieces one after the other

-- A piece: the table that comes with it, and its bytes.
pub record Piece : Type 0 where
  pub stakes : List ℕ
  pub bytes : List ℕ

-- The calls that take them.
unfoldable pub calls : List Piece → List Asked
calls [] = []
calls (p ∷ ps) = piece p.stakes p.bytes ∷ calls ps

-- The whole packet: their bytes in the order of their coming.
unfoldable pub packet : List Piece → List ℕ
packet [] = []
packet (p ∷ ps) = p.bytes ++ packet ps

-- As many times "more".
unfoldable pub mores : List Piece → List Said
mores [] = []
mores (p ∷ ps) = of_piece (Ok tt) ∷ mores ps
