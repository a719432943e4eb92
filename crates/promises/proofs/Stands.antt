-- Which own votes do not stand: what is answered and left, way by way. Assumes nothing.
use Rattle.std.specs.Prelude.{Result, Ok, Err}
use mathlib.Core.Path.{◌≡◌, refl, sym, ap, ◌∙◌}
use mathlib.Core.Bool.{true, false}
use mathlib.Core.List.{List, [], ◌∷◌}
use Prim.Native.Nat.{ℕ, ◌*◌, ◌≤◌, ◌<◌}
use native.Mathlib.Omega.{arith}
use lib.ListN.{length, get_or}
use lib.Dec.{leb}
use borrow.Author.Tests.{leb-true, leb-false, le-leb, lt-leb}
use Rattle.rulebook.specs.declared.Refusal.TheVariants as refusal
use Rattle.rulebook.specs.PaperNumbers.{Panel, refusal_number}
use Rattle.rulebook.specs.Writers.{over}
use Rattle.rule_laws.proofs.ToolLaws.{given_on, given_off, by_test, true_not_false}
use Rattle.record.specs.Layout.{ledger_of}
use Rattle.soundness.specs.Sound.{sound_words}
use Rattle.inquest.specs.declared.Line.{Line}
use Rattle.inquest.specs.Lists.{is_empty}
use Rattle.inquest.proofs.Lists.{nothing_fallen}
use Rattle.inquest_lines.specs.declared.ListRefusal.{ListRefusal}
use Rattle.inquest_lines.specs.declared.ListRefusal.TheVariants as why
use Rattle.inquest_lines.specs.Lent as lent
use Rattle.inquest_lines.specs.Lent.{spell_lines, refused_by, listed_in, list_panel}
use Rattle.standing.specs.Asked.{stands_on}
use Rattle.promises.specs.Differs.{shown_as}
use Rattle.promises.specs.Stands.{fallen_in, Told, StandsShown, FaceStands, FaceStandsRefused, FaceAllStand}

over_nothing : (list : List ℕ) → over [] list ≡ list
unfolding over
over_nothing list = refl

no_line : spell_lines [] ≡ []
unfolding spell_lines
no_line = refl

module _ (ws list left : List ℕ) (p : Panel) (e : p ≡ list_panel (stands_on ws (length list)).answer) (f : left ≡ over (stands_on ws (length list)).words list) where
  -- What the definition comes to is told.
  way : (d : lent.Told) → stands_on ws (length list) ≡ d → (p ≡ list_panel d.answer) × (left ≡ over d.words list)
  way d q = (e ∙ ap (λ (x : lent.Told). list_panel x.answer) q, f ∙ ap (λ (x : lent.Told). over x.words list) q)

  refusal_way : (a : Result ℕ ListRefusal) → stands_on ws (length list) ≡ refused_by a → (p ≡ list_panel a) × (left ≡ list)
  refusal_way a q = let w = way (refused_by a) q in (w.0, w.1 ∙ over_nothing list)

  told : Told ws list p left
  unfolding stands_on listed_in list_panel refusal_number
  told =
      record {
        bad = λ a. refusal_way (Err (why.Refused refusal.BadRecord)) (given_off (sound_words ws) (refused_by (Err (why.Refused refusal.BadRecord))) _ a);
        cramped = λ a h. refusal_way (Err (why.NoRoom n)) (good a ∙ given_off (leb (5 * n) (length list)) (refused_by (Err (why.NoRoom n))) _ (lt-leb (5 * n) (length list) h));
        whole = λ a h. way (record { answer = Ok n; words = spell_lines (fallen_in ws) }) (good a ∙ given_on (leb (5 * n) (length list)) (refused_by (Err (why.NoRoom n))) _ (le-leb (5 * n) (length list) h));
      }
    where
      n : ℕ
      n = length (fallen_in ws)

      good : sound_words ws ≡ true → stands_on ws (length list) ≡ listed_in (length list) (fallen_in ws)
      good a = given_on (sound_words ws) (refused_by (Err (why.Refused refusal.BadRecord))) _ a

pub stands_shown : StandsShown
stands_shown ws list r left d = told ws list left (list_panel r) (ap list_panel d.answered) d.listed

pub face_stands : FaceStands
face_stands ws list number beside left d =
    told ws list left (shown_as number beside) (λ i. record { number = d.numbered i; values = d.counted i }) d.lines

-- Each call goes one of the three ways.
ways {ℓ} : {X : Type ℓ} (ws list : List ℕ) → (sound_words ws ≡ false → X) → (sound_words ws ≡ true → length list < 5 * length (fallen_in ws) → X)
    → (sound_words ws ≡ true → 5 * length (fallen_in ws) ≤ length list → X) → X
ways ws list a b c =
    by_test (sound_words ws)
    (λ e. by_test (leb (5 * length (fallen_in ws)) (length list)) (λ h. c e (leb-true (5 * length (fallen_in ws)) (length list) h))
    (λ h. b e (leb-false (5 * length (fallen_in ws)) (length list) h))) a

number_of : {a b c d : ℕ} → shown_as a b ≡ shown_as c d → a ≡ c
number_of e = ap (λ (x : Panel). x.number) e

value_of : {a b c d : ℕ} → shown_as a b ≡ shown_as c d → b ≡ d
value_of e = ap (λ (x : Panel). get_or x.values 0 0) e

pub face_stands_refused : FaceStandsRefused
face_stands_refused ws list number beside left d n =
    let t = face_stands ws list number beside left d in
    ways ws list (λ a. (t.bad a).1) (λ a h. (t.cramped a h).1) (λ a h. absurd (n (number_of (t.whole a h).0)))

none_empty : (xs : List Line) → 0 ≡ length xs → is_empty xs ≡ true
unfolding is_empty
none_empty [] e = refl
none_empty (x ∷ xs) e = absurd (omega arith)

empty_none : (xs : List Line) → is_empty xs ≡ true → xs ≡ []
unfolding is_empty
empty_none [] e = refl
empty_none (x ∷ xs) e = true_not_false (is_empty (x ∷ xs)) e refl

pub face_all_stand : FaceAllStand
face_all_stand =
    record {
      means = λ ws list left d.
          let t = face_stands ws list 0 0 left d in
          ways ws list (λ a. absurd (omega (arith, number_of (t.bad a).0))) (λ a h. absurd (omega (arith, number_of (t.cramped a h).0)))
          (λ a h. sym (nothing_fallen (ledger_of ws)) ∙ none_empty (fallen_in ws) (value_of (t.whole a h).0));
      only = λ ws list number beside left a s d.
          let t = face_stands ws list number beside left d in
          let e : fallen_in ws ≡ [] = empty_none (fallen_in ws) (nothing_fallen (ledger_of ws) ∙ s) in
          let z : length (fallen_in ws) ≡ 0 = ap length e in
          let w = t.whole a (omega arith) in
          (number_of w.0, value_of w.0 ∙ z, w.1 ∙ ap (λ (x : List Line). over (spell_lines x) list) e ∙ ap (λ (x : List ℕ). over x list) no_line ∙ over_nothing list);
    }
