-- What is promised of proofs in pieces, over the contracts of the code: a run of calls, each known by its contract alone.
use Rattle.std.specs.Prelude.{◌≡◌, true, false, List, [], ◌∷◌, ◌++◌, map, ℕ, length, replicate, take, ⊤, Result, Ok, Err}
use Rattle.rulebook.specs.declared.Refusal.{Refusal}
use Rattle.rulebook.specs.declared.Refusal.TheVariants as refusal
use Rattle.rulebook.specs.Weights.{stakes_fit}
use Rattle.rulebook.specs.Checker.{check_proof}
use Rattle.pieces.specs.Pieces.{nothing, Asked, piece, end, Said, of_piece, of_end, said_by, after_calls, Piece, calls, packet, mores}
use Rattle.pieces.specs.State.{state_words, front_bytes, PieceOf, EndOf, is_whole, words_of, bytes_of}
use Rattle.rulebook.specs.declared.Accepted.{Accepted}

-- ---- the front

-- All that a proof's answer can depend on stands in the front of its packet, one byte of what follows a proof included.
abbrev pub FrontDecides : Type 0
FrontDecides = (stakes packet : List ℕ) → check_proof stakes (take front_bytes packet) ≡ check_proof stakes packet

-- ---- a run of calls

-- One call of the code: what was asked, what was answered, and the words and bytes of the state afterwards.
pub record Call : Type 0 where
  pub asked : Asked
  pub answer : Said
  pub words : List ℕ
  pub bytes : List ℕ

-- What its contract has of it.
pub data Meets (ws bs : List ℕ) : Asked → Said → List ℕ → List ℕ → Type 0 where
  as_piece : {stakes bytes ws' bs' : List ℕ} {r : Result ⊤ Refusal} → PieceOf ws bs stakes bytes r ws' bs' → Meets ws bs (piece stakes bytes) (of_piece r) ws' bs'
  as_end : {ws' bs' : List ℕ} {r : Result Accepted Refusal} → EndOf ws bs r ws' bs' → Meets ws bs end (of_end r) ws' bs'

-- Calls one after the other, each on the state that the one before left.
pub data Calls : List ℕ → List ℕ → List Call → Type 0 where
  no_more : {ws bs : List ℕ} → Calls ws bs []
  called : {ws bs : List ℕ} {c : Call} {cs : List Call} → Meets ws bs c.asked c.answer c.words c.bytes → Calls c.words c.bytes cs
      → Calls ws bs (c ∷ cs)

abbrev pub asked_in : List Call → List Asked
asked_in cs = map (λ (c : Call). c.asked) cs

abbrev pub answered_in : List Call → List Said
answered_in cs = map (λ (c : Call). c.answer) cs

-- The state after them.
unfoldable pub last_words : List ℕ → List Call → List ℕ
last_words ws [] = ws
last_words ws (c ∷ cs) = last_words c.words cs

unfoldable pub last_bytes : List ℕ → List Call → List ℕ
last_bytes bs [] = bs
last_bytes bs (c ∷ cs) = last_bytes c.bytes cs

-- "all zero is 'nothing taken'".
abbrev pub zero_words : List ℕ
zero_words = replicate state_words 0

abbrev pub zero_bytes : List ℕ
zero_bytes = replicate front_bytes 0

-- Whatever is called on a state that is all 0, in whatever order: each call answers what the definition says, over the concatenation of the
-- pieces since the last end, and the state is the one that stands for them.
abbrev pub CallsAnswer : Type 0
CallsAnswer =
    (cs : List Call) → Calls zero_words zero_bytes cs
    → (answered_in cs ≡ said_by nothing (asked_in cs))
    × (last_words zero_words cs ≡ words_of (after_calls nothing (asked_in cs)))
    × (last_bytes zero_bytes cs ≡ bytes_of (after_calls nothing (asked_in cs)))

-- "Wherever the cuts fall, the end call gives the same answer as the whole packet would; before it the answer is "more", whatever has been
-- seen. The table is taken with the first call and stays until the end call. After the end it starts anew": any number of pieces, with any
-- bytes or none, any tables with the later ones, then the end.
abbrev pub CutsAnywhere : Type 0
CutsAnywhere =
    (stakes first : List ℕ) (later : List Piece) (cs : List Call) → stakes_fit stakes (length stakes) ≡ true
    → Calls zero_words zero_bytes cs → asked_in cs ≡ piece stakes first ∷ (calls later ++ (end ∷ []))
    → (answered_in cs ≡ of_piece (Ok tt) ∷ (mores later ++ (of_end (check_proof stakes (first ++ packet later)) ∷ [])))
    × (last_words zero_words cs ≡ zero_words)
    × (last_bytes zero_bytes cs ≡ zero_bytes)

-- "An end call with no piece taken before it is 12."
abbrev pub EndWithoutPiece : Type 0
EndWithoutPiece =
    (r : Result Accepted Refusal) (ws' bs' : List ℕ) → EndOf zero_words zero_bytes r ws' bs'
    → (r ≡ Err refusal.BadLength) × (ws' ≡ zero_words) × (bs' ≡ zero_bytes)

-- "A table that is refused with 1 is refused at the first call and nothing is taken."
abbrev pub TableRefused : Type 0
TableRefused =
    (stakes bytes : List ℕ) (r : Result ⊤ Refusal) (ws' bs' : List ℕ) → stakes_fit stakes (length stakes) ≡ false → PieceOf zero_words zero_bytes stakes bytes r ws' bs'
    → (r ≡ Err refusal.BadSizes) × (ws' ≡ zero_words) × (bs' ≡ zero_bytes)

-- ---- 17

-- The end refuses with 17 exactly the states that no calls leave.
pub record LeftByCalls (ws bs : List ℕ) : Type 0 where
  pub before : List Asked
  pub words : ws ≡ words_of (after_calls nothing before)
  pub bytes : bs ≡ bytes_of (after_calls nothing before)

abbrev pub WholeIsLeft : Type 0
WholeIsLeft = (ws bs : List ℕ) → (is_whole ws bs ≡ true → LeftByCalls ws bs) × (LeftByCalls ws bs → is_whole ws bs ≡ true)

-- A refused piece leaves the state as found.
abbrev pub PieceRefused : Type 0
PieceRefused =
    (ws bs stakes bytes : List ℕ) (r : Refusal) (ws' bs' : List ℕ) → PieceOf ws bs stakes bytes (Err r) ws' bs' → (ws' ≡ ws) × (bs' ≡ bs)

-- A state that calls left is all 0 after the end, whatever was answered; any other is as found.
abbrev pub EndAnew : Type 0
EndAnew =
    (ws bs : List ℕ) (r : Result Accepted Refusal) (ws' bs' : List ℕ) → EndOf ws bs r ws' bs'
    → (is_whole ws bs ≡ true → (ws' ≡ zero_words) × (bs' ≡ zero_bytes))
    × (is_whole ws bs ≡ false → (r ≡ Err refusal.BadRecord) × (ws' ≡ ws) × (bs' ≡ bs))

-- ---- the contracts leave nothing open

abbrev pub PieceOne : Type 0
PieceOne =
    (ws bs stakes bytes : List ℕ) (r r' : Result ⊤ Refusal) (left left' front front' : List ℕ)
    → PieceOf ws bs stakes bytes r left front → PieceOf ws bs stakes bytes r' left' front' → (r ≡ r') × (left ≡ left') × (front ≡ front')

abbrev pub EndOne : Type 0
EndOne =
    (ws bs : List ℕ) (r r' : Result Accepted Refusal) (left left' front front' : List ℕ) → EndOf ws bs r left front → EndOf ws bs r' left' front'
    → (r ≡ r') × (left ≡ left') × (front ≡ front')
