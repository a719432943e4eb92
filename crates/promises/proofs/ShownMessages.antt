-- What the panel shows of the answers for vote messages. Assumes nothing.
use Rattle.std.specs.Prelude.{⊤, Result, Ok, Err}
use mathlib.Core.Path.{◌≡◌, refl, sym, ap, ◌∙◌}
use mathlib.Core.Bool.{Bool, true, false, not}
use mathlib.Core.List.{List, [], ◌∷◌}
use Prim.Native.Nat.{ℕ}
use lib.ListN.{length, replicate}
use Rattle.rulebook.specs.declared.Refusal.{Refusal}
use Rattle.rulebook.specs.declared.Refusal.TheVariants as refusal
use Rattle.rulebook.specs.declared.Unread.{Unread}
use Rattle.rulebook.specs.declared.Vote.{Vote}
use Rattle.rulebook.specs.Tools.{whenever}
use Rattle.rulebook.specs.PaperNumbers.{vote_number, vote_kind, verdict_number, write_panel, read_panel, refusal_number}
use Rattle.rulebook.specs.Weights.{count_fits}
use Rattle.rulebook.specs.Inputs.{refuse_if}
use Rattle.rulebook.specs.Packets.{number_at}
use Rattle.rulebook.specs.Messages.{vote_of, vote_tests, as_read, read_on, read_to, read_vote, message_bytes, message_verdict, write_vote}
use Rattle.rule_laws.proofs.RuleLaws.{refuse_fine}
use Rattle.messages.proofs.Promises.{kind_number}
use Rattle.promises.specs.Panels.{beside_it, shown, nothing_after, number_then, four_then, read_judged, four_of, MessageShown, ReadShown}
use Rattle.promises.proofs.Shown.{wrote_shown}

-- ---- the writer

pub message_shown : MessageShown
unfolding write_vote
message_shown count v buffer a after h = ap write_panel h.answered ∙ wrote_shown (message_verdict count (length buffer) v) (message_bytes v)

-- ---- the reader

-- The vote of four numbers, judged.
vote_shown : (v : Result ⊤ Refusal) (kind node slot block : ℕ) → (v ≡ Ok tt → vote_number (vote_kind kind) ≡ kind)
    → read_panel (read_on v (vote_of kind node slot block)) ≡ shown v (kind ∷ node ∷ slot ∷ block ∷ [])
unfolding read_panel read_on vote_of shown beside_it verdict_number
vote_shown (Ok tt) kind node slot block h = ap (λ (k : ℕ). record { number = 0; values = k ∷ node ∷ slot ∷ block ∷ [] }) (h refl)
vote_shown (Err r) kind node slot block h = refl

-- A number that was read, or four zeros beside 12 or 13.
number_shown : (x : Result (ℕ × ℕ) Unread) (f : ℕ → ℕ → Result Vote Refusal) (v : ℕ → ℕ → Result ⊤ Refusal) (values : ℕ → ℕ → List ℕ)
    → ((n next : ℕ) → read_panel (f n next) ≡ shown (v n next) (values n next))
    → read_panel (as_read x f) ≡ shown (number_then x Err v) (number_then x (λ _. replicate 4 0) values)
unfolding as_read number_then read_panel shown beside_it verdict_number
number_shown (Ok (n, next)) f v values h = h n next
number_shown (Err e) f v values h = refl

number_four : (x : Result (ℕ × ℕ) Unread) (values : ℕ → ℕ → List ℕ) → ((n next : ℕ) → length (values n next) ≡ 4)
    → length (number_then x (λ _. replicate 4 0) values) ≡ 4
unfolding number_then
number_four (Ok (n, next)) values h = h n next
number_four (Err e) values h = refl

four_told : (bytes : List ℕ) → length (four_of bytes) ≡ 4
unfolding four_of four_then
four_told bytes =
    number_four (number_at bytes 0) _
    (λ kind p. number_four (number_at bytes p) _
    (λ node q. number_four (number_at bytes q) _ (λ slot r. number_four (number_at bytes r) _ (λ block next. refl))))

-- 1, before anything is read.
count_shown : (t : Bool) (f : Unit {0} → Result Vote Refusal) (v : Result ⊤ Refusal) (values : List ℕ) → length values ≡ 4 → read_panel (f tt) ≡ shown v values
    → read_panel (whenever t f (Err refusal.BadSizes)) ≡ shown (refuse_if (not t) refusal.BadSizes v) values
unfolding whenever refuse_if read_panel shown beside_it verdict_number
count_shown true f v values l h = h
count_shown false f v values l h = ap (λ (n : ℕ). record { number = refusal_number refusal.BadSizes; values = replicate n 0 }) (sym l)

pub read_shown : ReadShown
unfolding read_vote read_judged four_of four_then read_to vote_tests vote_of nothing_after
read_shown count bytes a e =
    ap read_panel e
    ∙ count_shown (count_fits count) _ _ (four_of bytes) (four_told bytes)
    (number_shown (number_at bytes 0) _ _ _
    (λ kind p. number_shown (number_at bytes p) _ _ _
    (λ node q. number_shown (number_at bytes q) _ _ _
    (λ slot r. number_shown (number_at bytes r) _ _ _
    (λ block next. vote_shown _ kind node slot block (λ f. kind_number kind (refuse_fine _ _ _ f).0))))))
