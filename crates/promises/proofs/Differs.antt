-- Which votes differ: what is answered and left, way by way. Assumes nothing.
use Rattle.std.specs.Prelude.{Result, Ok, Err}
use mathlib.Core.Path.{◌≡◌, refl, ap, ◌∙◌}
use mathlib.Core.Bool.{true, false}
use mathlib.Core.List.{List, [], ◌∷◌}
use Prim.Native.Nat.{ℕ, ◌*◌, ◌≤◌, ◌<◌}
use native.Mathlib.Omega.{arith}
use lib.ListN.{length, get_or}
use lib.Dec.{leb}
use borrow.Author.Tests.{leb-true, leb-false}
use Rattle.rulebook.specs.PaperNumbers.{Panel, refusal_number}
use Rattle.rulebook.specs.Writers.{over}
use Rattle.rule_laws.proofs.ToolLaws.{given_on, given_off, by_test}
use Rattle.record.specs.Layout.{ledger_of}
use Rattle.soundness.specs.Sound.{sound_words}
use Rattle.differences.specs.declared.DifferRefusal.{DifferRefusal}
use Rattle.differences.specs.declared.DifferRefusal.TheVariants as why
use Rattle.difference_lines.specs.declared.Side.TheVariants as side
use Rattle.difference_lines.specs.Lines.{Line, side_number, spell_lines}
use Rattle.differences.specs.Lent.{Differed, refused_by, listed_in, differ, differ_panel}
use Rattle.differences.proofs.ListLaws.{over_nothing, cramped, roomy}
use Rattle.difference_lines.proofs.Theorems.{none_exactly}
use Rattle.promises.specs.Differs.{shown_as, lines_of, Told, DifferShown, FaceDiffer, FaceDifferRefused, FaceEqual}

module _ (one two list left : List ℕ) (p : Panel) (e : p ≡ differ_panel (differ one two (length list)).answer) (f : left ≡ over (spell_lines (differ one two (length list)).lines) list) where
  -- What the definition comes to is told.
  way : (d : Differed) → differ one two (length list) ≡ d → (p ≡ differ_panel d.answer) × (left ≡ over (spell_lines d.lines) list)
  way d q = (e ∙ ap (λ (x : Differed). differ_panel x.answer) q, f ∙ ap (λ (x : Differed). over (spell_lines x.lines) list) q)

  refusal_way : (a : Result ℕ DifferRefusal) → differ one two (length list) ≡ refused_by a → (p ≡ differ_panel a) × (left ≡ list)
  refusal_way a q = let w = way (refused_by a) q in (w.0, w.1 ∙ over_nothing list)

  told : Told one two list p left
  unfolding differ differ_panel refusal_number side_number
  told =
      record {
        first = λ a. refusal_way (Err (why.BadRecord side.First)) (given_off (sound_words one) (refused_by (Err (why.BadRecord side.First))) _ a);
        second = λ a b. refusal_way (Err (why.BadRecord side.Second)) (given_on (sound_words one) (refused_by (Err (why.BadRecord side.First))) _ a ∙ given_off (sound_words two) (refused_by (Err (why.BadRecord side.Second))) _ b);
        cramped = λ a b h. refusal_way (Err (why.NoRoom (length (lines_of one two)))) (both a b ∙ cramped list (lines_of one two) h);
        whole = λ a b h. way (record { answer = Ok (length (lines_of one two)); lines = lines_of one two }) (both a b ∙ roomy list (lines_of one two) h);
      }
    where
      both : sound_words one ≡ true → sound_words two ≡ true → differ one two (length list) ≡ listed_in (length list) (lines_of one two)
      both a b = given_on (sound_words one) (refused_by (Err (why.BadRecord side.First))) _ a ∙ given_on (sound_words two) (refused_by (Err (why.BadRecord side.Second))) _ b

pub differ_shown : DifferShown
differ_shown one two list r left d = told one two list left (differ_panel r) (ap differ_panel d.answered) d.listed

pub face_differ : FaceDiffer
face_differ one two list number beside left d =
    told one two list left (shown_as number beside) (λ i. record { number = d.numbered i; values = d.counted i }) d.lines

-- Each call goes one of the four ways.
ways {ℓ} : {X : Type ℓ} (one two list : List ℕ) → (sound_words one ≡ false → X) → (sound_words one ≡ true → sound_words two ≡ false → X)
    → (sound_words one ≡ true → sound_words two ≡ true → length list < 5 * length (lines_of one two) → X)
    → (sound_words one ≡ true → sound_words two ≡ true → 5 * length (lines_of one two) ≤ length list → X) → X
ways one two list a b c d =
    by_test (sound_words one)
    (λ e. by_test (sound_words two)
    (λ f. by_test (leb (5 * length (lines_of one two)) (length list)) (λ h. d e f (leb-true (5 * length (lines_of one two)) (length list) h))
    (λ h. c e f (leb-false (5 * length (lines_of one two)) (length list) h))) (b e)) a

pub face_differ_refused : FaceDifferRefused
face_differ_refused one two list number beside left d n =
    let t = face_differ one two list number beside left d in
    ways one two list (λ a. (t.first a).1) (λ a b. (t.second a b).1) (λ a b h. (t.cramped a b h).1)
    (λ a b h. absurd (n (ap (λ (x : Panel). x.number) (t.whole a b h).0)))

value_of : {a b c d : ℕ} → shown_as a b ≡ shown_as c d → b ≡ d
value_of e = ap (λ (x : Panel). get_or x.values 0 0) e

number_of : {a b c d : ℕ} → shown_as a b ≡ shown_as c d → a ≡ c
number_of e = ap (λ (x : Panel). x.number) e

none_of : (xs : List Line) → 0 ≡ length xs → xs ≡ []
none_of [] e = refl
none_of (x ∷ xs) e = absurd (omega arith)

pub face_equal : FaceEqual
face_equal =
    record {
      means = λ one two list left d v.
          let t = face_differ one two list 0 0 left d in
          ways one two list (λ a. absurd (omega (arith, number_of (t.first a).0))) (λ a b. absurd (omega (arith, number_of (t.second a b).0))) (λ a b h. absurd (omega (arith, number_of (t.cramped a b h).0)))
          (λ a b h. none_exactly.equal_votes (ledger_of one) (ledger_of two) (none_of (lines_of one two) (value_of (t.whole a b h).0)) v);
      only = λ one two list number beside left a b s f d.
          let t = face_differ one two list number beside left d in
          let e : lines_of one two ≡ [] = none_exactly.no_line (ledger_of one) (ledger_of two) s f in
          let z : length (lines_of one two) ≡ 0 = ap length e in
          let w = t.whole a b (omega arith) in
          (ap (λ (x : Panel). x.number) w.0, value_of w.0 ∙ z, w.1 ∙ ap (λ (x : List Line). over (spell_lines x) list) e ∙ over_nothing list);
    }
