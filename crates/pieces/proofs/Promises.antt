-- The promises of proofs in pieces.
use Rattle.std.specs.Prelude.{⊤, Result, Ok, Err}
use mathlib.Core.Path.{◌≡◌, refl, sym, ap, ap₂, ◌∙◌}
use mathlib.Core.Bool.{Bool, true, false}
use mathlib.Core.List.{List, [], ◌∷◌, ◌++◌, append_assoc, append-nil}
use Prim.Native.Nat.{ℕ, suc, ◌+◌, ◌-◌, ◌≤◌}
use native.Mathlib.Omega.{arith}
use lib.ListN.{length, take, drop, length-drop, take-append-drop}
use lib.Seq.{take_all, length-take-le}
use lib.Dec.{eqb}
use borrow.Author.Tests.{eqb-true, eqb-false}
use Rattle.rulebook.specs.declared.Refusal.{Refusal}
use Rattle.rulebook.specs.declared.Refusal.TheVariants as refusal
use Rattle.rulebook.specs.Weights.{stakes_fit}
use Rattle.rulebook.specs.Checker.{check_proof}
use Rattle.rule_laws.proofs.ToolLaws.{given_on, given_off, by_test, true_not_false}
use Rattle.pieces.specs.Pieces.{Taken, nothing, since, after_piece, piece_answer, end_answer, Asked, piece, end, Said, of_piece, of_end, said, after_call, said_by, after_calls, Piece, calls, packet, mores}
use Rattle.pieces.specs.State.{state_words, front_bytes, mark, kept, nodes, table, front, blank, is_ready, is_whole, kept_front, PieceOf, EndOf, words_of, bytes_of}
use Rattle.pieces.specs.Promises.{FrontDecides, Call, Meets, as_piece, as_end, Calls, no_more, called, asked_in, answered_in, last_words, last_bytes, zero_words, zero_bytes, CallsAnswer, CutsAnywhere, EndWithoutPiece, TableRefused, LeftByCalls, WholeIsLeft, PieceRefused, EndAnew, PieceOne, EndOne}
use Rattle.pieces.proofs.Runs.{blank_zeros}
use Rattle.pieces.proofs.Tests.{ready_words, ready_bytes, ready_within, ready_blank, whole_ready, whole_held, table_held}
use Rattle.pieces.proofs.Ways.{end_broken, piece_unready, piece_more, piece_unfit, piece_first, end_nothing, end_whole}
use Rattle.pieces.proofs.Front as decided
use Rattle.pieces.proofs.Held.{zeros, since_ready, since_whole, since_begun, since_table, since_front, words_more, bytes_more, words_first, bytes_first, nothing_mark, nothing_ready, nothing_whole}
use Rattle.rulebook.specs.declared.Accepted.{Accepted}

pub front_decides : FrontDecides
front_decides stakes bytes = decided.front_decides stakes bytes

-- The contracts leave nothing open: two results that they allow are equal.
pub piece_one : PieceOne
piece_one ws bs stakes bytes r r' left left' front front' a b =
    (a.answered ∙ sym b.answered, a.words ∙ sym b.words, a.front ∙ sym b.front)

pub end_one : EndOne
end_one ws bs r r' left left' front front' a b =
    (a.answered ∙ sym b.answered, a.words ∙ sym b.words, a.front ∙ sym b.front)

-- ---- one call on the state that stands for what has been taken

-- A table that was taken fits.
unfoldable pub Fits : Taken → Type 0
Fits nothing = Unit
Fits (since stakes bytes) = stakes_fit stakes (length stakes) ≡ true

pub fits_piece : (t : Taken) (stakes bytes : List ℕ) → Fits t → Fits (after_piece t stakes bytes)
unfolding Fits after_piece
fits_piece nothing stakes bytes f =
    by_test (stakes_fit stakes (length stakes))
    (λ e. rw (given_on (stakes_fit stakes (length stakes)) nothing (λ _. since stakes bytes) e) e)
    (λ e. rw (given_off (stakes_fit stakes (length stakes)) nothing (λ _. since stakes bytes) e) tt)
fits_piece (since table taken) stakes bytes f = f

-- What the definition has of a piece.
PieceIs : Taken → List ℕ → List ℕ → Type 0
PieceIs t stakes bytes =
    PieceOf (words_of t) (bytes_of t) stakes bytes (piece_answer t stakes) (words_of (after_piece t stakes bytes)) (bytes_of (after_piece t stakes bytes))

first_fits : (stakes bytes : List ℕ) → stakes_fit stakes (length stakes) ≡ true
    → PieceOf (words_of nothing) (bytes_of nothing) stakes bytes (Ok tt) (words_of (since stakes bytes)) (bytes_of (since stakes bytes))
first_fits stakes bytes e =
    piece_first (words_of nothing) (bytes_of nothing) stakes bytes nothing_ready nothing_mark e (sym (words_first stakes))
    (record {
      words = sym (words_more stakes [] bytes);
      front = sym (ap (λ (x : List ℕ). kept_front (words_of (since stakes [])) x bytes) (bytes_first stakes) ∙ bytes_more stakes [] bytes);
    })

piece_is : (t : Taken) (stakes bytes : List ℕ) → Fits t → PieceIs t stakes bytes
unfolding Fits PieceIs after_piece piece_answer
piece_is nothing stakes bytes f =
    by_test (stakes_fit stakes (length stakes))
    (λ e. rw (given_on (stakes_fit stakes (length stakes)) nothing (λ _. since stakes bytes) e, given_on (stakes_fit stakes (length stakes)) (Err refusal.BadSizes) (λ _. Ok (tt {0})) e) (first_fits stakes bytes e))
    (λ e. rw (given_off (stakes_fit stakes (length stakes)) nothing (λ _. since stakes bytes) e, given_off (stakes_fit stakes (length stakes)) (Err refusal.BadSizes) (λ _. Ok (tt {0})) e)
    (piece_unfit (words_of nothing) (bytes_of nothing) stakes bytes nothing_ready nothing_mark e))
piece_is (since table taken) stakes bytes f =
    piece_more (words_of (since table taken)) (bytes_of (since table taken)) stakes bytes (since_ready table taken f) (since_begun table taken)
    (record { words = sym (words_more table taken bytes); front = sym (bytes_more table taken bytes) })

-- Nothing taken is all 0.
pub none_words : words_of nothing ≡ zero_words
unfolding words_of
none_words = refl

pub none_bytes : bytes_of nothing ≡ zero_bytes
unfolding bytes_of
none_bytes = refl

-- What the definition has of the end.
end_is : (t : Taken) → Fits t → EndOf (words_of t) (bytes_of t) (end_answer t) (words_of nothing) (bytes_of nothing)
unfolding Fits end_answer
end_is nothing f = end_nothing (words_of nothing) (bytes_of nothing) nothing_whole nothing_mark
end_is (since table taken) f =
    let ready = since_ready table taken f in
    end_whole (words_of (since table taken)) (bytes_of (since table taken)) (since_whole table taken f) (since_begun table taken)
    (sym (ap₂ check_proof (since_table table taken) (since_front table taken) ∙ decided.front_decides table taken))
    (none_words ∙ ap zeros (sym (ready_words (words_of (since table taken)) (bytes_of (since table taken)) ready)))
    (none_bytes ∙ ap zeros (sym (ready_bytes (words_of (since table taken)) (bytes_of (since table taken)) ready)))

-- A piece that meets its contract, on a state that stands for what has been taken.
pub piece_says : (t : Taken) (ws bs stakes bytes : List ℕ) (r : Result ⊤ Refusal) (ws' bs' : List ℕ) → Fits t → ws ≡ words_of t → bs ≡ bytes_of t
    → PieceOf ws bs stakes bytes r ws' bs' → (r ≡ piece_answer t stakes) × (ws' ≡ words_of (after_piece t stakes bytes)) × (bs' ≡ bytes_of (after_piece t stakes bytes))
unfolding PieceIs
piece_says t ws bs stakes bytes r ws' bs' f e g h =
    piece_one ws bs stakes bytes r (piece_answer t stakes) ws' (words_of (after_piece t stakes bytes)) bs' (bytes_of (after_piece t stakes bytes)) h
    (rw (e, g) (piece_is t stakes bytes f))

-- Likewise the end.
pub end_says : (t : Taken) (ws bs : List ℕ) (r : Result Accepted Refusal) (ws' bs' : List ℕ) → Fits t → ws ≡ words_of t → bs ≡ bytes_of t → EndOf ws bs r ws' bs'
    → (r ≡ end_answer t) × (ws' ≡ words_of nothing) × (bs' ≡ bytes_of nothing)
end_says t ws bs r ws' bs' f e g h = end_one ws bs r (end_answer t) ws' (words_of nothing) bs' (bytes_of nothing) h (rw (e, g) (end_is t f))

-- ---- a run of calls

-- What a call that meets its contract says and leaves.
record Says (t : Taken) (a : Asked) (r : Said) (ws' bs' : List ℕ) : Type 0 where
  answer_is : r ≡ said t a
  words_are : ws' ≡ words_of (after_call t a)
  bytes_are : bs' ≡ bytes_of (after_call t a)

meets_says : (t : Taken) (ws bs : List ℕ) (a : Asked) (r : Said) (ws' bs' : List ℕ) → Fits t → ws ≡ words_of t → bs ≡ bytes_of t → Meets ws bs a r ws' bs'
    → Says t a r ws' bs'
unfolding said after_call
meets_says t ws bs a r ws' bs' f e g (as_piece {stakes} {bytes} {r = x} h) =
    let i = piece_says t ws bs stakes bytes x ws' bs' f e g h in
    record { answer_is = ap of_piece i.0; words_are = i.1; bytes_are = i.2 }
meets_says t ws bs a r ws' bs' f e g (as_end {r = x} h) =
    let i = end_says t ws bs x ws' bs' f e g h in
    record { answer_is = ap of_end i.0; words_are = i.1; bytes_are = i.2 }

pub fits_none : Fits nothing
unfolding Fits
fits_none = tt

fits_call : (t : Taken) (a : Asked) → Fits t → Fits (after_call t a)
unfolding after_call
fits_call t (piece stakes bytes) f = fits_piece t stakes bytes f
fits_call t end f = fits_none

-- The answers and the last state of calls from a state that stands for what has been taken.
calls_say : (t : Taken) (ws bs : List ℕ) (cs : List Call) → Fits t → ws ≡ words_of t → bs ≡ bytes_of t → Calls ws bs cs
    → (answered_in cs ≡ said_by t (asked_in cs)) × (last_words ws cs ≡ words_of (after_calls t (asked_in cs))) × (last_bytes bs cs ≡ bytes_of (after_calls t (asked_in cs)))
unfolding said_by after_calls last_words last_bytes
calls_say t ws bs cs f e g no_more = (refl, e, g)
calls_say t ws bs cs f e g (called {c = c} {cs = rest} m later) =
    let i = meets_says t ws bs c.asked c.answer c.words c.bytes f e g m in
    let j = calls_say (after_call t c.asked) c.words c.bytes rest (fits_call t c.asked f) i.words_are i.bytes_are later in
    (ap₂ (λ (x : Said) (xs : List Said). x ∷ xs) i.answer_is j.0, j.1, j.2)

pub calls_answer : CallsAnswer
calls_answer cs h = calls_say nothing zero_words zero_bytes cs fits_none (sym none_words) (sym none_bytes) h

-- ---- in the customer's words

-- Later pieces are added, whatever tables come with them, and are answered "more"; then the end.
later_said : (stakes taken : List ℕ) (ps : List Piece)
    → said_by (since stakes taken) (calls ps ++ (end ∷ [])) ≡ mores ps ++ (of_end (check_proof stakes (taken ++ packet ps)) ∷ [])
unfolding said_by calls mores packet said after_call piece_answer after_piece end_answer
later_said stakes taken [] = ap (λ (x : List ℕ). of_end (check_proof stakes x) ∷ []) (sym (append-nil taken))
later_said stakes taken (p ∷ ps) =
    ap (λ (xs : List Said). of_piece (Ok tt) ∷ xs)
    (later_said stakes (taken ++ p.bytes) ps
    ∙ ap (λ (x : List ℕ). mores ps ++ (of_end (check_proof stakes x) ∷ [])) (append_assoc taken p.bytes (packet ps)))

later_left : (t : Taken) (ps : List Piece) → after_calls t (calls ps ++ (end ∷ [])) ≡ nothing
unfolding after_calls calls after_call
later_left t [] = refl
later_left t (p ∷ ps) = later_left (after_piece t p.stakes p.bytes) ps

all_said : (stakes first : List ℕ) (later : List Piece) → stakes_fit stakes (length stakes) ≡ true
    → said_by nothing (piece stakes first ∷ (calls later ++ (end ∷ []))) ≡ of_piece (Ok tt) ∷ (mores later ++ (of_end (check_proof stakes (first ++ packet later)) ∷ []))
unfolding said_by said after_call piece_answer after_piece
all_said stakes first later e =
    ap₂ (λ (r : Result ⊤ Refusal) (t : Taken). of_piece r ∷ said_by t (calls later ++ (end ∷ [])))
    (given_on (stakes_fit stakes (length stakes)) (Err refusal.BadSizes) (λ _. Ok (tt {0})) e)
    (given_on (stakes_fit stakes (length stakes)) nothing (λ _. since stakes first) e)
    ∙ ap (λ (xs : List Said). of_piece (Ok tt) ∷ xs) (later_said stakes first later)

all_left : (stakes first : List ℕ) (later : List Piece) → after_calls nothing (piece stakes first ∷ (calls later ++ (end ∷ []))) ≡ nothing
unfolding after_calls after_call
all_left stakes first later = later_left (after_piece nothing stakes first) later

pub cuts_anywhere : CutsAnywhere
cuts_anywhere stakes first later cs e h a =
    let i = calls_answer cs h in
    let asks : List Asked = piece stakes first ∷ (calls later ++ (end ∷ [])) in
    let left : after_calls nothing (asked_in cs) ≡ nothing = ap (after_calls nothing) a ∙ all_left stakes first later in (
      i.0 ∙ ap (said_by nothing) a ∙ all_said stakes first later e,
      i.1 ∙ ap words_of left ∙ none_words,
      i.2 ∙ ap bytes_of left ∙ none_bytes,
    )

pub end_without_piece : EndWithoutPiece
unfolding end_answer words_of bytes_of
end_without_piece r ws' bs' h =
    let i = end_one zero_words zero_bytes r (end_answer nothing) ws' (words_of nothing) bs' (bytes_of nothing) h (end_is nothing fits_none) in
    (i.0, i.1 ∙ none_words, i.2 ∙ none_bytes)

pub table_refused : TableRefused
unfolding words_of bytes_of
table_refused stakes bytes r ws' bs' e h =
    piece_one zero_words zero_bytes stakes bytes r (Err refusal.BadSizes) ws' zero_words bs' zero_bytes h
    (piece_unfit zero_words zero_bytes stakes bytes nothing_ready nothing_mark e)

-- ---- 17

-- Calls of any order leave a state that the end does not refuse with 17.
fits_calls : (t : Taken) (asks : List Asked) → Fits t → Fits (after_calls t asks)
unfolding after_calls
fits_calls t [] f = f
fits_calls t (a ∷ asks) f = fits_calls (after_call t a) asks (fits_call t a f)

fits_whole : (t : Taken) → Fits t → is_whole (words_of t) (bytes_of t) ≡ true
unfolding Fits
fits_whole nothing f = nothing_whole
fits_whole (since table taken) f = since_whole table taken f

positive : (m : ℕ) → (m ≡ 0 → ⊥) → 1 ≤ m
positive m f = omega arith

-- The words of a state that holds a table are those that the table and the mark leave.
words_back : (ws : List ℕ) → length ws ≡ state_words → nodes ws ≤ 2048 → blank (drop (2 + nodes ws) ws) ≡ true → (m : ℕ) → m ≡ mark ws
    → ws ≡ m ∷ length (table ws) ∷ (table ws ++ zeros (2048 - length (table ws)))
words_back [] h few clean m e = absurd (omega arith)
words_back (a ∷ []) h few clean m e = absurd (omega arith)
words_back (a ∷ b ∷ ws) h few clean m e =
    let n : length (take b ws) ≡ b = length-take-le b ws (omega arith) in
    let q : 2 + b ≡ suc (suc b) = omega arith in
    let c : blank (drop b ws) ≡ true = ap (λ (k : ℕ). blank (drop k (a ∷ b ∷ ws))) (sym q) ∙ clean in
    let left : length (drop b ws) ≡ 2048 - length (take b ws) = omega (arith, length-drop b ws) in
    let z : drop b ws ≡ zeros (2048 - length (take b ws)) = blank_zeros (drop b ws) c ∙ ap zeros left in
    ap₂ (λ (x y : ℕ). x ∷ y ∷ ws) (sym e) (sym n)
    ∙ ap (λ (x : List ℕ). m ∷ length (take b ws) ∷ x) (sym (take-append-drop b ws) ∙ ap (λ (x : List ℕ). take b ws ++ x) z)

-- A state that is not refused is that of one piece, or of none.
begun_left : (ws bs : List ℕ) → is_whole ws bs ≡ true → (mark ws ≡ 0 → ⊥) → (stakes_fit (table ws) (length (table ws)) ≡ true)
    × (ws ≡ words_of (since (table ws) (front ws bs))) × (bs ≡ bytes_of (since (table ws) (front ws bs)))
unfolding words_of bytes_of
begun_left ws bs e n =
    let r = whole_ready ws bs e in
    let h = whole_held ws bs e n in
    let t = table_held ws h.0 in
    let k : kept ws ≤ length bs = omega (arith, ready_within ws bs r n, ready_bytes ws bs r) in
    let l : length (front ws bs) ≡ kept ws = length-take-le (kept ws) bs k in
    let f : take front_bytes (front ws bs) ≡ front ws bs = take_all front_bytes (front ws bs) (omega (arith, ready_within ws bs r n)) in
    let left : length (drop (kept ws) bs) ≡ front_bytes - length (front ws bs) = omega (arith, length-drop (kept ws) bs, ready_bytes ws bs r) in
    let past : drop (kept ws) bs ≡ zeros (front_bytes - length (front ws bs)) = blank_zeros (drop (kept ws) bs) h.1 ∙ ap zeros left in (
      t.fits,
      words_back ws (ready_words ws bs r) t.few t.clean (length (take front_bytes (front ws bs)) + 1) (omega (arith, ap length f, positive (mark ws) n)),
      sym (take-append-drop (kept ws) bs) ∙ ap₂ (λ (x y : List ℕ). x ++ y) (sym f) (past ∙ ap (λ (x : List ℕ). zeros (front_bytes - length x)) (sym f)),
    )

left_none : after_calls nothing [] ≡ nothing
unfolding after_calls
left_none = refl

left_one : (stakes bytes : List ℕ) → stakes_fit stakes (length stakes) ≡ true → after_calls nothing (piece stakes bytes ∷ []) ≡ since stakes bytes
unfolding after_calls after_call after_piece
left_one stakes bytes e = given_on (stakes_fit stakes (length stakes)) nothing (λ _. since stakes bytes) e

whole_left : (ws bs : List ℕ) → is_whole ws bs ≡ true → LeftByCalls ws bs
whole_left ws bs e =
    by_test (eqb (mark ws) 0)
    (λ t. let r = whole_ready ws bs e in
    let b = ready_blank ws bs r (eqb-true (mark ws) 0 t) in
    record {
      before = [];
      words = blank_zeros ws b.0 ∙ ap zeros (ready_words ws bs r) ∙ sym none_words ∙ ap words_of (sym left_none);
      bytes = blank_zeros bs b.1 ∙ ap zeros (ready_bytes ws bs r) ∙ sym none_bytes ∙ ap bytes_of (sym left_none);
    })
    (λ t. let b = begun_left ws bs e (eqb-false (mark ws) 0 t) in
    record {
      before = piece (table ws) (front ws bs) ∷ [];
      words = b.1 ∙ ap words_of (sym (left_one (table ws) (front ws bs) b.0));
      bytes = b.2 ∙ ap bytes_of (sym (left_one (table ws) (front ws bs) b.0));
    })

pub whole_is_left : WholeIsLeft
whole_is_left ws bs = (whole_left ws bs, λ l. rw (l.words, l.bytes) (fits_whole (after_calls nothing l.before) (fits_calls nothing l.before fits_none)))

-- ---- after the end

-- A state that is not refused stands for what has been taken.
whole_taken : (ws bs : List ℕ) (r : Result Accepted Refusal) (ws' bs' : List ℕ) → EndOf ws bs r ws' bs' → is_whole ws bs ≡ true → (ws' ≡ zero_words) × (bs' ≡ zero_bytes)
whole_taken ws bs r ws' bs' h e =
    let l = whole_left ws bs e in
    let t = after_calls nothing l.before in
    let i = end_says t ws bs r ws' bs' (fits_calls nothing l.before fits_none) l.words l.bytes h in
    (i.1 ∙ none_words, i.2 ∙ none_bytes)

pub end_anew : EndAnew
end_anew ws bs r ws' bs' h =
    (whole_taken ws bs r ws' bs' h, λ e. end_one ws bs r (Err refusal.BadRecord) ws' ws bs' bs h (end_broken ws bs e))

-- ---- a refused piece

is_more : Result ⊤ Refusal → Bool
is_more (Ok tt) = true
is_more (Err r) = false

-- No contract allows a refusal where the piece is taken.
not_more : {X : Type 0} (ws bs stakes bytes : List ℕ) (r : Refusal) (ws' bs' left front : List ℕ) → PieceOf ws bs stakes bytes (Err r) ws' bs'
    → PieceOf ws bs stakes bytes (Ok tt) left front → X
unfolding is_more
not_more ws bs stakes bytes r ws' bs' left front h m =
    let e : Err r ≡ (Ok tt) = (piece_one ws bs stakes bytes (Err r) (Ok tt) ws' left bs' front h m).0 in
    true_not_false (is_more (Ok tt)) refl (sym (ap is_more e))

pub piece_refused_lem : PieceRefused
piece_refused_lem ws bs stakes bytes r ws' bs' h =
    let same : (x : Result ⊤ Refusal) → PieceOf ws bs stakes bytes x ws bs → (ws' ≡ ws) × (bs' ≡ bs) =
    (λ x m. let i = piece_one ws bs stakes bytes (Err r) x ws' ws bs' bs h m in (i.1, i.2)) in
    by_test (is_ready ws bs)
    (λ e. by_test (eqb (mark ws) 0)
    (λ t. by_test (stakes_fit stakes (length stakes))
    (λ f. not_more ws bs stakes bytes r ws' bs' _ _ h (piece_first ws bs stakes bytes e (eqb-true (mark ws) 0 t) f refl (record { words = refl; front = refl })))
    (λ f. same (Err refusal.BadSizes) (piece_unfit ws bs stakes bytes e (eqb-true (mark ws) 0 t) f)))
    (λ t. not_more ws bs stakes bytes r ws' bs' _ _ h (piece_more ws bs stakes bytes e (eqb-false (mark ws) 0 t) (record { words = refl; front = refl }))))
    (λ e. same (Err refusal.BadRecord) (piece_unready ws bs stakes bytes e))
