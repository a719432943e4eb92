-- The state that the host lends between the calls: words and bytes. Of the packet it keeps the front that a proof's answer can depend on.
use Rattle.std.specs.Prelude.{◌≡◌, Bool, ◌&&◌, ◌||◌, List, ◌∷◌, ◌++◌, ℕ, ◌+◌, ◌-◌, ◌≤◌, min, length, get_or, set, take, drop, replicate, eqb, leb, ⊤, Result, Ok, Err}
use Rattle.std.proofs.Math.Seq.{paste}
use Rattle.rulebook.specs.declared.Refusal.{Refusal}
use Rattle.rulebook.specs.declared.Refusal.TheVariants as refusal
use Rattle.rulebook.specs.Tools.{whenever, choose, all_to}
use Rattle.rulebook.specs.Weights.{stakes_fit}
use Rattle.rulebook.specs.Ledger.{none}
use Rattle.rulebook.specs.Checker.{check_proof}
use Rattle.pieces.specs.Pieces.{Taken, nothing, since}
use Rattle.rulebook.specs.declared.Accepted.{Accepted}

-- ---- its parts

-- A mark, a count of nodes, and places for 2,048 stakes.
abbrev pub state_words : ℕ
state_words = 2050

-- Two certificates of 67 numbers of ten bytes, and one byte that tells that more came.
abbrev pub front_bytes : ℕ
front_bytes = 1341

-- The mark is 0 where nothing has been taken, else the number of kept bytes and one.
abbrev pub mark : List ℕ → ℕ
mark ws = get_or ws 0 0

abbrev pub kept : List ℕ → ℕ
kept ws = mark ws - 1

-- How many nodes the table has, and its stakes.
abbrev pub nodes : List ℕ → ℕ
nodes ws = get_or ws 1 0

abbrev pub table : List ℕ → List ℕ
table ws = take (nodes ws) (drop 2 ws)

-- The front of the packet, as far as it is kept.
abbrev pub front : List ℕ → List ℕ → List ℕ
front ws bs = take (kept ws) bs

-- Nothing but zeros.
unfoldable pub blank : List ℕ → Bool
blank ws = all_to (length ws) (λ i. none (get_or ws i 0))

-- ---- 17

unfoldable pub is_sized : List ℕ → List ℕ → Bool
is_sized ws bs = eqb (length ws) state_words && eqb (length bs) front_bytes

-- A piece looks at the lengths and at the mark; where nothing has been taken, all is 0.
unfoldable pub is_ready : List ℕ → List ℕ → Bool
is_ready ws bs = is_sized ws bs && choose (none (mark ws)) (blank ws && blank bs) (leb (mark ws) (front_bytes + 1))

-- The stakes are a table, and the places past them are 0.
unfoldable pub holds_table : List ℕ → Bool
holds_table ws = leb (nodes ws) 2048 && (stakes_fit (table ws) (length (table ws)) && blank (drop (2 + nodes ws) ws))

-- The end looks at all of it: where something has been taken, also at the table, and that the bytes past the kept ones are 0.
unfoldable pub is_whole : List ℕ → List ℕ → Bool
is_whole ws bs = is_ready ws bs && (none (mark ws) || (holds_table ws && blank (drop (kept ws) bs)))

-- ---- what a piece does

-- The first piece's table is kept, and no byte yet.
unfoldable pub with_table : List ℕ → List ℕ → List ℕ
with_table ws stakes = paste (set (set ws 0 1) 1 (length stakes)) 2 stakes (length stakes)

-- As many of a piece's bytes as there is still room for.
abbrev pub fitting : List ℕ → List ℕ → ℕ
fitting ws bytes = min (length bytes) (front_bytes - kept ws)

unfoldable pub kept_words : List ℕ → List ℕ → List ℕ
kept_words ws bytes = set ws 0 (kept ws + fitting ws bytes + 1)

unfoldable pub kept_front : List ℕ → List ℕ → List ℕ → List ℕ
kept_front ws bs bytes = paste bs (kept ws) bytes (fitting ws bytes)

-- What a piece answers and all that it leaves.
pub record PieceLeft : Type 0 where
  pub answer : Result ⊤ Refusal
  pub words : List ℕ
  pub bytes : List ℕ

abbrev pub piece_refused : Refusal → List ℕ → List ℕ → PieceLeft
piece_refused r ws bs = record { answer = Err r; words = ws; bytes = bs }

abbrev pub piece_taken : List ℕ → List ℕ → List ℕ → PieceLeft
piece_taken ws bs bytes = record { answer = Ok tt; words = kept_words ws bytes; bytes = kept_front ws bs bytes }

unfoldable pub first_leaves : List ℕ → List ℕ → List ℕ → List ℕ → PieceLeft
first_leaves ws bs stakes bytes =
    whenever (stakes_fit stakes (length stakes)) (λ _. piece_taken (with_table ws stakes) bs bytes) (piece_refused refusal.BadSizes ws bs)

unfoldable pub piece_leaves : List ℕ → List ℕ → List ℕ → List ℕ → PieceLeft
piece_leaves ws bs stakes bytes =
    whenever (is_ready ws bs)
    (λ _. whenever (none (mark ws)) (λ _. first_leaves ws bs stakes bytes) (piece_taken ws bs bytes))
    (piece_refused refusal.BadRecord ws bs)

-- The contract of a piece: its answer, and all words and bytes of the state afterwards.
pub record PieceOf (ws bs stakes bytes : List ℕ) (r : Result ⊤ Refusal) (ws' bs' : List ℕ) : Type 0 where
  pub answered : r ≡ (piece_leaves ws bs stakes bytes).answer
  pub words : ws' ≡ (piece_leaves ws bs stakes bytes).words
  pub front : bs' ≡ (piece_leaves ws bs stakes bytes).bytes

-- ---- what the end does

pub record EndLeft : Type 0 where
  pub answer : Result Accepted Refusal
  pub words : List ℕ
  pub bytes : List ℕ

abbrev pub end_refused : Refusal → List ℕ → List ℕ → EndLeft
end_refused r ws bs = record { answer = Err r; words = ws; bytes = bs }

-- The whole check of what was kept; afterwards all is 0.
abbrev pub end_checked : List ℕ → List ℕ → EndLeft
end_checked ws bs = record { answer = check_proof (table ws) (front ws bs); words = replicate (length ws) 0; bytes = replicate (length bs) 0 }

unfoldable pub end_leaves : List ℕ → List ℕ → EndLeft
end_leaves ws bs =
    whenever (is_whole ws bs)
    (λ _. whenever (none (mark ws)) (λ _. end_refused refusal.BadLength ws bs) (end_checked ws bs))
    (end_refused refusal.BadRecord ws bs)

-- The contract of the end: its answer, and all words and bytes of the state afterwards.
pub record EndOf (ws bs : List ℕ) (r : Result Accepted Refusal) (ws' bs' : List ℕ) : Type 0 where
  pub answered : r ≡ (end_leaves ws bs).answer
  pub words : ws' ≡ (end_leaves ws bs).words
  pub front : bs' ≡ (end_leaves ws bs).bytes

-- ---- what the state stands for

-- The words and the bytes in which the calls keep what has been taken.
unfoldable pub words_of : Taken → List ℕ
words_of nothing = replicate state_words 0
words_of (since stakes bytes) =
    (length (take front_bytes bytes) + 1) ∷ length stakes ∷ (stakes ++ replicate (2048 - length stakes) 0)

unfoldable pub bytes_of : Taken → List ℕ
bytes_of nothing = replicate front_bytes 0
bytes_of (since stakes bytes) = take front_bytes bytes ++ replicate (front_bytes - length (take front_bytes bytes)) 0

-- ---- what inner functions ask

-- A state, and no more stakes than it has places for.
pub record Sized (ws stakes : List ℕ) : Type 0 where
  pub words : length ws ≡ state_words
  pub few : length stakes ≤ 2048

-- A state in which something has been taken.
pub record Taking (ws bs : List ℕ) : Type 0 where
  pub words : length ws ≡ state_words
  pub bytes : length bs ≡ front_bytes
  pub begun : 1 ≤ mark ws
  pub within : mark ws ≤ front_bytes + 1

-- What keeping a piece's bytes leaves.
pub record Keeps (ws bs bytes ws' bs' : List ℕ) : Type 0 where
  pub words : ws' ≡ kept_words ws bytes
  pub front : bs' ≡ kept_front ws bs bytes
