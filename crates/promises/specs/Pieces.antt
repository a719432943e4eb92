-- Proofs in pieces, in the paper's numbers and at the face: what each call shows and leaves, and what a run of calls of the face answers.
use Rattle.std.specs.Prelude.{◌≡◌, true, not, ◌&&◌, List, [], ◌∷◌, ◌++◌, map, ℕ, length, ⊤, Result, Ok}
use Rattle.rulebook.specs.declared.Refusal.{Refusal}
use Rattle.rulebook.specs.declared.Refusal.TheVariants as refusal
use Rattle.rulebook.specs.declared.Accepted.{Accepted}
use Rattle.rulebook.specs.PaperNumbers.{check_number, check_values, check_missing, check_panel}
use Rattle.rulebook.specs.Weights.{stakes_fit}
use Rattle.rulebook.specs.Ledger.{none}
use Rattle.rulebook.specs.Inputs.{refuse_if}
use Rattle.rulebook.specs.Packets.{certificate_at}
use Rattle.rulebook.specs.Checker.{check_proof}
use Rattle.pieces.specs.Pieces.{Taken, nothing, since, piece_answer, end_answer, piece_panel, Asked, piece, end, after_call, after_calls, Piece, calls, packet}
use Rattle.pieces.specs.State.{mark, nodes, table, front, is_ready, is_whole, PieceOf, EndOf, words_of, bytes_of}
use Rattle.pieces.specs.Promises.{zero_words, zero_bytes}
use Rattle.answers.specs.Face.{Checked, Pieced, Ended}
use Rattle.promises.specs.Panels.{shown, proof_checked, told_of}

-- ---- numbers and values

-- 17; then 1 for the first piece's table; a later table is not looked at.
unfoldable pub piece_judged : List ℕ → List ℕ → List ℕ → Result ⊤ Refusal
piece_judged ws bs stakes =
    refuse_if (not (is_ready ws bs)) refusal.BadRecord
    (refuse_if (none (mark ws) && not (stakes_fit stakes (length stakes))) refusal.BadSizes (Ok tt))

-- A piece has no values beside its number.
abbrev pub PieceShown : Type 0
PieceShown =
    (ws bs stakes bytes : List ℕ) (r : Result ⊤ Refusal) (ws' bs' : List ℕ) → PieceOf ws bs stakes bytes r ws' bs'
    → piece_panel r ≡ shown (piece_judged ws bs stakes) []

-- 17; 12 with no piece taken before; then what is due to a proof, in its order.
unfoldable pub end_judged : List ℕ → List ℕ → Result ⊤ Refusal
end_judged ws bs =
    refuse_if (not (is_whole ws bs)) refusal.BadRecord (refuse_if (none (mark ws)) refusal.BadLength (proof_checked (table ws) (front ws bs)))

-- The end has the values of the packet's first certificate, or zeros.
abbrev pub EndShown : Type 0
EndShown =
    (ws bs : List ℕ) (r : Result Accepted Refusal) (ws' bs' : List ℕ) → EndOf ws bs r ws' bs'
    → check_panel (nodes ws) r ≡ shown (end_judged ws bs) (told_of (table ws) (certificate_at (front ws bs) 0))

-- ---- what the face leaves

-- qr_piece: a number that is not 0 leaves words and bytes as found.
abbrev pub FacePieceRefused : Type 0
FacePieceRefused =
    (ws bs stakes bytes : List ℕ) (number : ℕ) (ws' bs' : List ℕ) → Pieced ws bs stakes bytes number ws' bs' → ¬ (number ≡ 0) → (ws' ≡ ws) × (bs' ≡ bs)

-- 17 leaves words and bytes as found; every other number, 0 too, leaves nothing but zeros: "After the end it starts anew". Five zeros stand
-- beside a number that is not 0.
pub record EndLeaves (ws bs : List ℕ) (number : ℕ) (values ws' bs' : List ℕ) : Type 0 where
  pub found : number ≡ 17 → (ws' ≡ ws) × (bs' ≡ bs)
  pub anew : ¬ (number ≡ 17) → (ws' ≡ zero_words) × (bs' ≡ zero_bytes)
  pub zeros : ¬ (number ≡ 0) → values ≡ 0 ∷ 0 ∷ 0 ∷ 0 ∷ 0 ∷ []

-- qr_end.
abbrev pub FaceEndRefused : Type 0
FaceEndRefused =
    (ws bs : List ℕ) (number : ℕ) (values : List ℕ) (missing : ℕ) (ws' bs' : List ℕ) → Ended ws bs number values missing ws' bs'
    → EndLeaves ws bs number values ws' bs'

-- ---- a run of calls of the face

-- What a call of the face gives: its number, the values beside it, none beside a piece's, and what is missing beside 15.
pub record Reply : Type 0 where
  pub number : ℕ
  pub values : List ℕ
  pub missing : ℕ

-- A call as its contract has it: qr_piece, qr_end.
pub data FaceMeets (ws bs : List ℕ) : Asked → Reply → List ℕ → List ℕ → Type 0 where
  as_piece : {stakes bytes ws' bs' : List ℕ} {n : ℕ} → Pieced ws bs stakes bytes n ws' bs'
      → FaceMeets ws bs (piece stakes bytes) (record { number = n; values = []; missing = 0 }) ws' bs'
  as_end : {values ws' bs' : List ℕ} {n missing : ℕ} → Ended ws bs n values missing ws' bs'
      → FaceMeets ws bs end (record { number = n; values = values; missing = missing }) ws' bs'

-- Calls one after the other, each on the state that the one before left, up to the state after them.
pub data FaceCalls : List ℕ → List ℕ → List Asked → List Reply → List ℕ → List ℕ → Type 0 where
  no_more : {ws bs : List ℕ} → FaceCalls ws bs [] [] ws bs
  called : {ws bs between kept ws' bs' : List ℕ} {a : Asked} {r : Reply} {asks : List Asked} {replies : List Reply} → FaceMeets ws bs a r between kept
      → FaceCalls between kept asks replies ws' bs' → FaceCalls ws bs (a ∷ asks) (r ∷ replies) ws' bs'

-- The paper's numbers of a check's answer, under a table of so many nodes.
abbrev pub check_reply : ℕ → Result Accepted Refusal → Reply
check_reply count a = record { number = check_number a; values = check_values count a; missing = check_missing a }

-- How many nodes the table has that was taken.
unfoldable pub count_in : Taken → ℕ
count_in nothing = 0
count_in (since table bytes) = length table

-- What the definition gives for a call, where so much has been taken.
unfoldable pub reply_to : Taken → Asked → Reply
reply_to t (piece stakes bytes) = record { number = (piece_panel (piece_answer t stakes)).number; values = []; missing = 0 }
reply_to t end = check_reply (count_in t) (end_answer t)

unfoldable pub replies_to : Taken → List Asked → List Reply
replies_to t [] = []
replies_to t (a ∷ asks) = reply_to t a ∷ replies_to (after_call t a) asks

-- Whatever is called on a state that is all 0, in whatever order: each call gives what the definition gives over the concatenation since the
-- last end, and the state is the one that stands for it.
abbrev pub FaceCallsAnswer : Type 0
FaceCallsAnswer =
    (asks : List Asked) (replies : List Reply) (ws' bs' : List ℕ) → FaceCalls zero_words zero_bytes asks replies ws' bs'
    → (replies ≡ replies_to nothing asks) × (ws' ≡ words_of (after_calls nothing asks)) × (bs' ≡ bytes_of (after_calls nothing asks))

-- "more".
abbrev pub more : Reply
more = record { number = 0; values = []; missing = 0 }

-- "Wherever the cuts fall, the end call gives the same answer as the whole packet would; before it the answer is "more", whatever has been
-- seen .. After the end it starts anew": qr_end gives number, values and figure that qr_check_proof gives for the whole packet.
abbrev pub FaceCutsAnywhere : Type 0
FaceCutsAnywhere =
    (stakes first : List ℕ) (later : List Piece) (replies : List Reply) (ws' bs' : List ℕ) (number : ℕ) (values : List ℕ) (missing : ℕ)
    → stakes_fit stakes (length stakes) ≡ true
    → FaceCalls zero_words zero_bytes (piece stakes first ∷ (calls later ++ (end ∷ []))) replies ws' bs'
    → Checked (length stakes) (check_proof stakes (first ++ packet later)) number values missing
    → (replies ≡ more ∷ (map (λ (p : Piece). more) later ++ (record { number = number; values = values; missing = missing } ∷ [])))
    × (ws' ≡ zero_words)
    × (bs' ≡ zero_bytes)
