-- Proofs in pieces, in the paper's numbers and at the face. Assumes nothing.
use Rattle.std.specs.Prelude.{⊤, Result, Ok, Err}
use mathlib.Core.Path.{◌≡◌, refl, sym, ap, ap₂, ◌∙◌}
use mathlib.Core.Bool.{Bool, true, false}
use mathlib.Core.List.{List, [], ◌∷◌, ◌++◌, map, append_assoc, append-nil}
use Prim.Native.Nat.{ℕ, ◌≤◌}
use native.Mathlib.Omega.{arith}
use lib.ListN.{length, drop, length-drop}
use lib.Seq.{length-take-le}
use lib.Dec.{eqb}
use borrow.Author.Tests.{eqb-true, eqb-false}
use Rattle.rulebook.specs.declared.CertificateKind.{CertificateKind}
use Rattle.rulebook.specs.declared.CertificateKind.TheVariants as certificate
use Rattle.rulebook.specs.declared.Refusal.{Refusal}
use Rattle.rulebook.specs.declared.Refusal.TheVariants as refusal
use Rattle.rulebook.specs.declared.Accepted.{Accepted}
use Rattle.rulebook.specs.Certificates.{Certificate, Found}
use Rattle.rulebook.specs.Certificates as found
use Rattle.rulebook.specs.PaperNumbers.{Panel, verdict_number, check_number, check_values, check_missing, check_panel, refusal_number}
use Rattle.rulebook.specs.Weights.{stakes_fit}
use Rattle.rulebook.specs.Ledger.{none}
use Rattle.rulebook.specs.Inputs.{refuse_if}
use Rattle.rulebook.specs.Packets.{certificate_at}
use Rattle.rulebook.specs.Checker.{judge_weight, judge_kind, judge, check_proof}
use Rattle.rule_laws.proofs.ToolLaws.{given_on, by_test}
use Rattle.rule_laws.proofs.PanelLaws.{refused_told}
use Rattle.pieces.specs.Pieces.{Taken, nothing, since, after_piece, piece_answer, end_answer, piece_panel, Asked, piece, end, after_call, after_calls, Piece, calls, packet}
use Rattle.pieces.specs.State.{mark, nodes, table, front, is_ready, is_whole, piece_leaves, end_leaves, PieceOf, EndOf, words_of, bytes_of}
use Rattle.pieces.specs.Promises.{zero_words, zero_bytes}
use Rattle.pieces.proofs.Tests.{ready_words, whole_ready, whole_held, table_held}
use Rattle.pieces.proofs.Ways.{end_broken, piece_unready, piece_more, piece_unfit, piece_first, end_nothing, end_whole}
use Rattle.pieces.proofs.Held.{since_nodes}
use Rattle.pieces.proofs.Promises.{Fits, fits_none, fits_piece, none_words, none_bytes, piece_one, end_one, piece_says, end_says, piece_refused_lem, end_anew}
use Rattle.promises.specs.Panels.{beside_it, shown, else_then, whole_then, nothing_after, first_then, second_checked, proof_checked, told_of}
use Rattle.promises.specs.Pieces.{piece_judged, PieceShown, end_judged, EndShown, FacePieceRefused, FaceEndRefused, Reply, FaceMeets, as_piece, as_end, FaceCalls, no_more, called, check_reply, count_in, reply_to, replies_to, FaceCallsAnswer, more, FaceCutsAnywhere}
use Rattle.promises.proofs.ShownChecks.{refusal_shown, proof_check_shown}
use Rattle.promises.proofs.Refused.{face_check_refused}

-- ---- a piece's number

module _ (ws bs stakes : List ℕ) where
  unready_judged : is_ready ws bs ≡ false → piece_judged ws bs stakes ≡ Err refusal.BadRecord
  unfolding piece_judged refuse_if
  unready_judged e = rw e refl

  unfit_judged : is_ready ws bs ≡ true → none (mark ws) ≡ true → stakes_fit stakes (length stakes) ≡ false → piece_judged ws bs stakes ≡ Err refusal.BadSizes
  unfolding piece_judged refuse_if
  unfit_judged e t f = rw (e, t, f) refl

  first_judged : is_ready ws bs ≡ true → none (mark ws) ≡ true → stakes_fit stakes (length stakes) ≡ true → piece_judged ws bs stakes ≡ Ok tt
  unfolding piece_judged refuse_if
  first_judged e t f = rw (e, t, f) refl

  later_judged : is_ready ws bs ≡ true → none (mark ws) ≡ false → piece_judged ws bs stakes ≡ Ok tt
  unfolding piece_judged refuse_if
  later_judged e t = rw (e, t) refl

-- What a verdict shows of the answer that it gives.
more_panel : piece_panel (Ok tt) ≡ shown (Ok tt) []
unfolding piece_panel shown beside_it verdict_number
more_panel = refl

refused_panel : (r : Refusal) → piece_panel (Err r) ≡ shown (Err r) []
unfolding piece_panel shown beside_it verdict_number
refused_panel r = refl

module _ (ws bs stakes bytes : List ℕ) (r : Result ⊤ Refusal) (ws' bs' : List ℕ) (h : PieceOf ws bs stakes bytes r ws' bs') where
  piece_way : {left kept : List ℕ} (x : Result ⊤ Refusal) (v : Result ⊤ Refusal) → PieceOf ws bs stakes bytes x left kept → piece_panel x ≡ shown v [] → piece_judged ws bs stakes ≡ v
      → piece_panel r ≡ shown (piece_judged ws bs stakes) []
  piece_way {left} {kept} x v m p j =
      ap piece_panel (piece_one ws bs stakes bytes r x ws' left bs' kept h m).0 ∙ p ∙ ap (λ (y : Result ⊤ Refusal). shown y []) (sym j)

pub piece_shown : PieceShown
piece_shown ws bs stakes bytes r ws' bs' h =
    by_test (is_ready ws bs)
    (λ e. by_test (eqb (mark ws) 0)
    (λ t. by_test (stakes_fit stakes (length stakes))
    (λ f. piece_way ws bs stakes bytes r ws' bs' h (Ok tt) (Ok tt) (piece_first ws bs stakes bytes e (eqb-true (mark ws) 0 t) f refl (record { words = refl; front = refl })) more_panel (first_judged ws bs stakes e t f))
    (λ f. piece_way ws bs stakes bytes r ws' bs' h (Err refusal.BadSizes) (Err refusal.BadSizes) (piece_unfit ws bs stakes bytes e (eqb-true (mark ws) 0 t) f) (refused_panel refusal.BadSizes) (unfit_judged ws bs stakes e t f)))
    (λ t. piece_way ws bs stakes bytes r ws' bs' h (Ok tt) (Ok tt) (piece_more ws bs stakes bytes e (eqb-false (mark ws) 0 t) (record { words = refl; front = refl })) more_panel (later_judged ws bs stakes e t)))
    (λ e. piece_way ws bs stakes bytes r ws' bs' h (Err refusal.BadRecord) (Err refusal.BadRecord) (piece_unready ws bs stakes bytes e) (refused_panel refusal.BadRecord) (unready_judged ws bs stakes e))

-- ---- the end's number and values

module _ (ws bs : List ℕ) where
  broken_judged : is_whole ws bs ≡ false → end_judged ws bs ≡ Err refusal.BadRecord
  unfolding end_judged refuse_if
  broken_judged e = rw e refl

  nothing_judged : is_whole ws bs ≡ true → none (mark ws) ≡ true → end_judged ws bs ≡ Err refusal.BadLength
  unfolding end_judged refuse_if
  nothing_judged e t = rw (e, t) refl

  taken_judged : is_whole ws bs ≡ true → none (mark ws) ≡ false → end_judged ws bs ≡ proof_checked (table ws) (front ws bs)
  unfolding end_judged refuse_if
  taken_judged e t = rw (e, t) refl

  -- A table that was taken has the nodes that the state counts.
  table_nodes : is_whole ws bs ≡ true → (mark ws ≡ 0 → ⊥) → nodes ws ≡ length (table ws)
  table_nodes e n =
      let few = (table_held ws (whole_held ws bs e n).0).few in
      sym (length-take-le (nodes ws) (drop 2 ws) (omega (arith, length-drop 2 ws, ready_words ws bs (whole_ready ws bs e))))

  -- Zeros, whatever was read.
  zeros_shown : (r : Refusal) → check_panel (nodes ws) (Err r) ≡ shown (Err r) (told_of (table ws) (certificate_at (front ws bs) 0))
  unfolding check_values
  zeros_shown r = refusal_shown (table ws) (certificate_at (front ws bs) 0) r

  -- The three ways of an end.
  end_ways : {X : Type 0} (r : Result Accepted Refusal) (ws' bs' : List ℕ) → EndOf ws bs r ws' bs'
      → (is_whole ws bs ≡ false → r ≡ Err refusal.BadRecord → X)
      → (is_whole ws bs ≡ true → none (mark ws) ≡ true → r ≡ Err refusal.BadLength → X)
      → (is_whole ws bs ≡ true → none (mark ws) ≡ false → r ≡ check_proof (table ws) (front ws bs) → X) → X
  end_ways r ws' bs' h broken none-taken taken =
      by_test (is_whole ws bs)
      (λ e. by_test (eqb (mark ws) 0)
      (λ t. none-taken e t (end_one ws bs r _ ws' _ bs' _ h (end_nothing ws bs e (eqb-true (mark ws) 0 t))).0)
      (λ t. taken e t (end_one ws bs r _ ws' _ bs' _ h (end_whole ws bs e (eqb-false (mark ws) 0 t) refl refl refl)).0))
      (λ e. broken e (end_one ws bs r _ ws' _ bs' _ h (end_broken ws bs e)).0)

pub end_shown : EndShown
end_shown ws bs r ws' bs' h =
    let told : Result ⊤ Refusal → Panel = (λ v. shown v (told_of (table ws) (certificate_at (front ws bs) 0))) in
    end_ways ws bs r ws' bs' h
    (λ e q. ap (check_panel (nodes ws)) q ∙ zeros_shown ws bs refusal.BadRecord ∙ ap told (sym (broken_judged ws bs e)))
    (λ e t q. ap (check_panel (nodes ws)) q ∙ zeros_shown ws bs refusal.BadLength ∙ ap told (sym (nothing_judged ws bs e t)))
    (λ e t q.
    ap (λ (n : ℕ). check_panel n r) (table_nodes ws bs e (eqb-false (mark ws) 0 t))
    ∙ (proof_check_shown (table ws) (front ws bs) r q).panel ∙ ap told (sym (taken_judged ws bs e t)))

-- ---- a check's number is never 17

abbrev Low : Result ⊤ Refusal → Type 0
Low v = verdict_number v ≤ 16

fine_low : Low (Ok tt)
unfolding verdict_number
fine_low = omega arith

refuse_low : (t : Bool) (r : Refusal) (v : Result ⊤ Refusal) → refusal_number r ≤ 16 → Low v → Low (refuse_if t r v)
unfolding refuse_if verdict_number
refuse_low true r v h g = h
refuse_low false r v h g = g

else_low : (v w : Result ⊤ Refusal) → Low v → Low w → Low (else_then v w)
unfolding else_then
else_low (Ok tt) w g h = h
else_low (Err r) w g h = g

judge_low : (stakes : List ℕ) (c : Certificate) → Low (judge stakes c)
unfolding judge judge_kind judge_weight refusal_number
judge_low stakes c =
    refuse_low _ _ _ (omega arith)
    (refuse_low _ _ _ (omega arith) (refuse_low _ _ _ (omega arith) (refuse_low _ _ _ (omega arith) (refuse_low _ _ _ (omega arith) fine_low))))

whole_low : (stakes : List ℕ) (x : Found) (f : Certificate → ℕ → Result ⊤ Refusal) → ((c : Certificate) (n : ℕ) → Low (f c n)) → Low (whole_then stakes x f)
unfolding whole_then verdict_number refusal_number
whole_low stakes (found.Whole c n) f h = else_low (judge stakes c) (f c n) (judge_low stakes c) (h c n)
whole_low stakes found.Early f h = omega arith
whole_low stakes found.Malformed f h = omega arith

after_low : (bytes : List ℕ) (n : ℕ) → Low (nothing_after bytes n)
unfolding nothing_after refusal_number
after_low bytes n = refuse_low _ _ _ (omega arith) fine_low

first_low : (k : CertificateKind) (v w : Result ⊤ Refusal) → Low v → Low w → Low (first_then k v w)
unfolding first_then verdict_number refusal_number
first_low certificate.FastFinal v w g h = g
first_low certificate.Notar v w g h = h
first_low certificate.NotarFallback v w g h = omega arith
first_low certificate.Skip v w g h = omega arith
first_low certificate.Final v w g h = omega arith
first_low certificate.Other v w g h = omega arith

second_low : (stakes bytes : List ℕ) (c : Certificate) (n : ℕ) → Low (second_checked stakes bytes c n)
unfolding second_checked refusal_number
second_low stakes bytes c n =
    whole_low stakes (certificate_at bytes n) _ (λ d m. refuse_low _ _ _ (omega arith) (after_low bytes m))

proof_low : (stakes bytes : List ℕ) → Low (proof_checked stakes bytes)
unfolding proof_checked refusal_number
proof_low stakes bytes =
    refuse_low _ _ _ (omega arith)
    (whole_low stakes (certificate_at bytes 0) _ (λ c n. first_low _ _ _ (after_low bytes n) (second_low stakes bytes c n)))

check_low : (stakes bytes : List ℕ) → check_number (check_proof stakes bytes) ≤ 16
unfolding shown
check_low stakes bytes =
    let e : check_number (check_proof stakes bytes) ≡ verdict_number (proof_checked stakes bytes) =
    ap (λ (x : Panel). x.number) (proof_check_shown stakes bytes (check_proof stakes bytes) refl).panel in
    omega (arith, proof_low stakes bytes)

-- ---- what the face leaves

pub face_piece_refused : FacePieceRefused
unfolding piece_panel
face_piece_refused ws bs stakes bytes number ws' bs' h ne =
    let x = refused_told (piece_leaves ws bs stakes bytes).answer (λ e. ne (h.numbered ∙ e)) in
    piece_refused_lem ws bs stakes bytes x.0 ws' bs' (record { answered = sym x.1; words = h.words; front = h.front })

-- The number is 17 exactly where the state is refused.
broken_number : check_number (Err refusal.BadRecord) ≡ 17
unfolding check_number refusal_number
broken_number = refl

nothing_number : check_number (Err refusal.BadLength) ≡ 12
unfolding check_number refusal_number
nothing_number = refl

pub face_end_refused : FaceEndRefused
face_end_refused ws bs number values missing ws' bs' h =
    let o : EndOf ws bs (end_leaves ws bs).answer ws' bs' = record { answered = refl; words = h.words; front = h.front } in
    let a = end_anew ws bs (end_leaves ws bs).answer ws' bs' o in
    let numbered : (r : Result Accepted Refusal) → (end_leaves ws bs).answer ≡ r → number ≡ check_number r = (λ r q. h.checked.numbered ∙ ap check_number q) in
    record {
      found = λ n. end_ways ws bs (end_leaves ws bs).answer ws' bs' o
          (λ e q. let f = a.1 e in (f.1, f.2))
          (λ e t q. absurd (omega (arith, numbered _ q, nothing_number)))
          (λ e t q. absurd (omega (arith, numbered _ q, check_low (table ws) (front ws bs))));
      anew = λ n. end_ways ws bs (end_leaves ws bs).answer ws' bs' o
          (λ e q. absurd (n (numbered _ q ∙ broken_number)))
          (λ e t q. a.0 e)
          (λ e t q. a.0 e);
      zeros = λ n. face_check_refused (nodes ws) (end_leaves ws bs).answer number values missing h.checked n;
    }

-- ---- a run of calls of the face

-- What a call gives and leaves on a state that stands for what has been taken.
record Gives (t : Taken) (a : Asked) (r : Reply) (ws' bs' : List ℕ) : Type 0 where
  reply_is : r ≡ reply_to t a
  words_are : ws' ≡ words_of (after_call t a)
  bytes_are : bs' ≡ bytes_of (after_call t a)

-- The values of an end are told under the table that was taken.
end_values : (t : Taken) (ws : List ℕ) → ws ≡ words_of t → check_values (nodes ws) (end_answer t) ≡ check_values (count_in t) (end_answer t)
unfolding count_in end_answer check_values
end_values nothing ws e = refl
end_values (since stakes bytes) ws e = ap (λ (n : ℕ). check_values n (check_proof stakes bytes)) (ap nodes e ∙ since_nodes stakes bytes)

gives : (t : Taken) (ws bs : List ℕ) (a : Asked) (r : Reply) (ws' bs' : List ℕ) → Fits t → ws ≡ words_of t → bs ≡ bytes_of t → FaceMeets ws bs a r ws' bs'
    → Gives t a r ws' bs'
unfolding reply_to after_call
gives t ws bs a r ws' bs' f e g (as_piece {stakes} {bytes} h) =
    let i = piece_says t ws bs stakes bytes (piece_leaves ws bs stakes bytes).answer ws' bs' f e g (record { answered = refl; words = h.words; front = h.front }) in
    record {
      reply_is = ap (λ (n : ℕ). record { number = n; values = []; missing = 0 }) (h.numbered ∙ ap (λ (x : Result ⊤ Refusal). (piece_panel x).number) i.0);
      words_are = i.1;
      bytes_are = i.2;
    }
gives t ws bs a r ws' bs' f e g (as_end h) =
    let i = end_says t ws bs (end_leaves ws bs).answer ws' bs' f e g (record { answered = refl; words = h.words; front = h.front }) in
    let n = h.checked.numbered ∙ ap check_number i.0 in
    let v = h.checked.valued ∙ ap (check_values (nodes ws)) i.0 ∙ end_values t ws e in
    let m = h.checked.lacked ∙ ap check_missing i.0 in
    record { reply_is = λ j. record { number = n j; values = v j; missing = m j }; words_are = i.1; bytes_are = i.2 }

fits_after : (t : Taken) (a : Asked) → Fits t → Fits (after_call t a)
unfolding after_call
fits_after t (piece stakes bytes) f = fits_piece t stakes bytes f
fits_after t end f = fits_none

calls_give : (t : Taken) (ws bs : List ℕ) (asks : List Asked) (replies : List Reply) (ws' bs' : List ℕ) → Fits t → ws ≡ words_of t → bs ≡ bytes_of t
    → FaceCalls ws bs asks replies ws' bs' → (replies ≡ replies_to t asks) × (ws' ≡ words_of (after_calls t asks)) × (bs' ≡ bytes_of (after_calls t asks))
unfolding replies_to after_calls
calls_give t ws bs asks replies ws' bs' f e g no_more = (refl, e, g)
calls_give t ws bs asks replies ws' bs' f e g (called {between = between} {kept = kept} {a = a} {r = r} {asks = rest} {replies = others} m later) =
    let i = gives t ws bs a r between kept f e g m in
    let j = calls_give (after_call t a) between kept rest others ws' bs' (fits_after t a f) i.words_are i.bytes_are later in
    (ap₂ (λ (x : Reply) (xs : List Reply). x ∷ xs) i.reply_is j.0, j.1, j.2)

pub face_calls_answer : FaceCallsAnswer
face_calls_answer asks replies ws' bs' h = calls_give nothing zero_words zero_bytes asks replies ws' bs' fits_none (sym none_words) (sym none_bytes) h

-- Later pieces are answered "more", then the end as the whole packet.
later_replies : (stakes taken : List ℕ) (ps : List Piece)
    → replies_to (since stakes taken) (calls ps ++ (end ∷ [])) ≡ map (λ (p : Piece). more) ps ++ (check_reply (length stakes) (check_proof stakes (taken ++ packet ps)) ∷ [])
unfolding replies_to calls packet reply_to after_call piece_answer after_piece end_answer count_in piece_panel
later_replies stakes taken [] = ap (λ (x : List ℕ). check_reply (length stakes) (check_proof stakes x) ∷ []) (sym (append-nil taken))
later_replies stakes taken (p ∷ ps) =
    ap (λ (xs : List Reply). more ∷ xs)
    (later_replies stakes (taken ++ p.bytes) ps
    ∙ ap (λ (x : List ℕ). map (λ (q : Piece). more) ps ++ (check_reply (length stakes) (check_proof stakes x) ∷ [])) (append_assoc taken p.bytes (packet ps)))

later_nothing : (t : Taken) (ps : List Piece) → after_calls t (calls ps ++ (end ∷ [])) ≡ nothing
unfolding after_calls calls after_call
later_nothing t [] = refl
later_nothing t (p ∷ ps) = later_nothing (after_piece t p.stakes p.bytes) ps

all_replies : (stakes first : List ℕ) (later : List Piece) → stakes_fit stakes (length stakes) ≡ true
    → replies_to nothing (piece stakes first ∷ (calls later ++ (end ∷ []))) ≡ more ∷ (map (λ (p : Piece). more) later ++ (check_reply (length stakes) (check_proof stakes (first ++ packet later)) ∷ []))
unfolding replies_to reply_to after_call piece_answer after_piece piece_panel
all_replies stakes first later e =
    ap₂ (λ (r : Result ⊤ Refusal) (t : Taken). record { number = (piece_panel r).number; values = []; missing = 0 } ∷ replies_to t (calls later ++ (end ∷ [])))
    (given_on (stakes_fit stakes (length stakes)) (Err refusal.BadSizes) (λ _. (Ok tt)) e)
    (given_on (stakes_fit stakes (length stakes)) nothing (λ _. since stakes first) e)
    ∙ ap (λ (xs : List Reply). more ∷ xs) (later_replies stakes first later)

all_nothing : (stakes first : List ℕ) (later : List Piece) → after_calls nothing (piece stakes first ∷ (calls later ++ (end ∷ []))) ≡ nothing
unfolding after_calls after_call
all_nothing stakes first later = later_nothing (after_piece nothing stakes first) later

pub face_cuts_anywhere : FaceCutsAnywhere
face_cuts_anywhere stakes first later replies ws' bs' number values missing e h c =
    let i = face_calls_answer (piece stakes first ∷ (calls later ++ (end ∷ []))) replies ws' bs' h in
    let left = all_nothing stakes first later in
    let whole : check_reply (length stakes) (check_proof stakes (first ++ packet later)) ≡ record { number = number; values = values; missing = missing } =
    (λ j. record { number = sym c.numbered j; values = sym c.valued j; missing = sym c.lacked j }) in (
      i.0 ∙ all_replies stakes first later e ∙ ap (λ (x : Reply). more ∷ (map (λ (p : Piece). more) later ++ (x ∷ []))) whole,
      i.1 ∙ ap words_of left ∙ none_words,
      i.2 ∙ ap bytes_of left ∙ none_bytes,
    )
