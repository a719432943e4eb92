-- Each way through a piece and through the end is what the definition says. Assumes nothing.
use Rattle.std.specs.Prelude.{⊤, Result, Ok, Err}
use mathlib.Core.Path.{◌≡◌, refl, sym, ap, ◌∙◌}
use mathlib.Core.Bool.{true, false}
use mathlib.Core.List.{List}
use Prim.Native.Nat.{ℕ}
use lib.ListN.{length, take, replicate}
use borrow.Author.Tests.{eq-eqb, ne_eqb}
use Rattle.rulebook.specs.declared.Refusal.TheVariants as refusal
use Rattle.rulebook.specs.Weights.{stakes_fit}
use Rattle.rulebook.specs.Ledger.{none}
use Rattle.rulebook.specs.Checker.{check_proof}
use Rattle.rule_laws.proofs.ToolLaws.{given_on, given_off}
use Rattle.pieces.proofs.Tests.{first_stakes, first_stakes_lem}
use Rattle.pieces.specs.State.{mark, kept, table, front, is_ready, is_whole, with_table, kept_words, kept_front, PieceLeft, piece_refused, piece_taken, first_leaves, piece_leaves, PieceOf, EndLeft, end_refused, end_checked, end_leaves, EndOf, Keeps}
use Rattle.rulebook.specs.declared.Accepted.{Accepted}
use Rattle.rulebook.specs.declared.Refusal.{Refusal}

module _ (ws bs stakes bytes : List ℕ) where
  -- Whatever equals the definition is allowed.
  piece_of : {ws' bs' : List ℕ} {r : Result ⊤ Refusal} (f : PieceLeft) → f ≡ piece_leaves ws bs stakes bytes → r ≡ f.answer → ws' ≡ f.words → bs' ≡ f.bytes
      → PieceOf ws bs stakes bytes r ws' bs'
  piece_of f e a b c =
      record {
        answered = a ∙ ap (λ (x : PieceLeft). x.answer) e;
        words = b ∙ ap (λ (x : PieceLeft). x.words) e;
        front = c ∙ ap (λ (x : PieceLeft). x.bytes) e;
      }

  -- 17.
  pub piece_unready : is_ready ws bs ≡ false → PieceOf ws bs stakes bytes (Err refusal.BadRecord) ws bs
  unfolding piece_leaves
  piece_unready e = piece_of (piece_refused refusal.BadRecord ws bs) (sym (given_off (is_ready ws bs) _ _ e)) refl refl refl

  -- More.
  pub piece_more : {ws' bs' : List ℕ} → is_ready ws bs ≡ true → (mark ws ≡ 0 → ⊥) → Keeps ws bs bytes ws' bs' → PieceOf ws bs stakes bytes (Ok tt) ws' bs'
  unfolding piece_leaves
  piece_more e n k =
      piece_of (piece_taken ws bs bytes) (sym (given_on (is_ready ws bs) _ _ e ∙ given_off (none (mark ws)) _ _ (ne_eqb (mark ws) 0 n))) refl k.words k.front

  first_is : is_ready ws bs ≡ true → mark ws ≡ 0 → first_leaves ws bs stakes bytes ≡ piece_leaves ws bs stakes bytes
  unfolding piece_leaves
  first_is e n = sym (given_on (is_ready ws bs) _ _ e ∙ given_on (none (mark ws)) (piece_taken ws bs bytes) _ (eq-eqb (mark ws) 0 n))

  -- 1.
  pub piece_unfit : is_ready ws bs ≡ true → mark ws ≡ 0 → stakes_fit stakes (length stakes) ≡ false
      → PieceOf ws bs stakes bytes (Err refusal.BadSizes) ws bs
  unfolding first_leaves
  piece_unfit e n f =
      piece_of (piece_refused refusal.BadSizes ws bs) (sym (given_off (stakes_fit stakes (length stakes)) _ _ f) ∙ first_is e n) refl refl refl

  -- The first piece.
  pub piece_first : {begun ws' bs' : List ℕ} → is_ready ws bs ≡ true → mark ws ≡ 0 → stakes_fit stakes (length stakes) ≡ true
      → begun ≡ with_table ws stakes → Keeps begun bs bytes ws' bs' → PieceOf ws bs stakes bytes (Ok tt) ws' bs'
  unfolding first_leaves
  piece_first e n f t k =
      piece_of (piece_taken (with_table ws stakes) bs bytes) (sym (given_on (stakes_fit stakes (length stakes)) _ _ f) ∙ first_is e n) refl
      (k.words ∙ ap (λ (x : List ℕ). kept_words x bytes) t) (k.front ∙ ap (λ (x : List ℕ). kept_front x bs bytes) t)

module _ (ws bs : List ℕ) where
  end_of : {ws' bs' : List ℕ} {r : Result Accepted Refusal} (f : EndLeft) → f ≡ end_leaves ws bs → r ≡ f.answer → ws' ≡ f.words → bs' ≡ f.bytes → EndOf ws bs r ws' bs'
  end_of f e a b c =
      record {
        answered = a ∙ ap (λ (x : EndLeft). x.answer) e;
        words = b ∙ ap (λ (x : EndLeft). x.words) e;
        front = c ∙ ap (λ (x : EndLeft). x.bytes) e;
      }

  -- 17.
  pub end_broken : is_whole ws bs ≡ false → EndOf ws bs (Err refusal.BadRecord) ws bs
  unfolding end_leaves
  end_broken e = end_of (end_refused refusal.BadRecord ws bs) (sym (given_off (is_whole ws bs) _ _ e)) refl refl refl

  -- 12: no piece was taken.
  pub end_nothing : is_whole ws bs ≡ true → mark ws ≡ 0 → EndOf ws bs (Err refusal.BadLength) ws bs
  unfolding end_leaves
  end_nothing e n =
      end_of (end_refused refusal.BadLength ws bs) (sym (given_on (is_whole ws bs) _ _ e ∙ given_on (none (mark ws)) (end_checked ws bs) _ (eq-eqb (mark ws) 0 n))) refl refl refl

  -- The whole check.
  pub end_whole : {ws' bs' : List ℕ} {r : Result Accepted Refusal} → is_whole ws bs ≡ true → (mark ws ≡ 0 → ⊥) → r ≡ check_proof (table ws) (front ws bs)
      → ws' ≡ replicate (length ws) 0 → bs' ≡ replicate (length bs) 0 → EndOf ws bs r ws' bs'
  unfolding end_leaves
  end_whole e n a b c =
      end_of (end_checked ws bs) (sym (given_on (is_whole ws bs) _ _ e ∙ given_off (none (mark ws)) _ _ (ne_eqb (mark ws) 0 n))) a b c

  -- On the parts as the code lends them.
  pub end_checked_lem : {ws' bs' : List ℕ} {r : Result Accepted Refusal} → is_whole ws bs ≡ true → (mark ws ≡ 0 → ⊥) → r ≡ check_proof (first_stakes ws) (take (kept ws) bs)
      → ws' ≡ replicate (length ws) 0 → bs' ≡ replicate (length bs) 0 → EndOf ws bs r ws' bs'
  end_checked_lem e n a b c =
      end_whole e n (a ∙ ap (λ (x : List ℕ). check_proof x (front ws bs)) (first_stakes_lem ws)) b c
