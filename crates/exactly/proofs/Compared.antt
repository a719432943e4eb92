-- What qr_differ says of stake tables. Assumes nothing.
use mathlib.Core.Path.{◌≡◌, refl, sym, ap, ◌∙◌}
use mathlib.Core.Bool.{true, false, ◌&&◌}
use mathlib.Core.List.{List, [], ◌∷◌}
use Prim.Native.Nat.{ℕ, ◌*◌}
use native.Mathlib.Omega.{arith}
use lib.ListN.{length, get_or, take}
use lib.Dec.{eqb, leb}
use borrow.Author.Tests.{eq-eqb, leb-true, leb-false}
use Rattle.rulebook.specs.PaperNumbers.{Panel, vote_number}
use Rattle.rulebook.specs.Ledger.{Ledger}
use Rattle.rulebook.specs.Writers.{over}
use Rattle.rule_laws.proofs.ToolLaws.{both_and, or_left, by_test, true_not_false}
use Rattle.rule_laws.proofs.RuleLaws.{over_front}
use Rattle.record.specs.Layout.{ledger_of}
use Rattle.soundness.specs.Sound.{sound_words}
use Rattle.soundness.proofs.Laws.{sound_ledger}
use Rattle.difference_lines.specs.declared.Side.{Side}
use Rattle.difference_lines.specs.declared.Side.TheVariants as side
use Rattle.difference_lines.specs.Lines.{Line, side_number, same_tables, tables_line, spell_lines, differences}
use Rattle.difference_lines.specs.Promises.{same_vote, is_line, listed}
use Rattle.difference_lines.proofs.Theorems.{tables_exactly}
use Rattle.answers.specs.Face.{Compared}
use Rattle.promises.specs.Differs.{shown_as, lines_of}
use Rattle.promises.proofs.Differs.{face_differ, face_equal}
use Rattle.exactly.specs.Compared.{tables_words, FaceTables, FaceNone}
use Rattle.exactly.proofs.Tables.{tables_compared}

value_of : {a b c d : ℕ} → shown_as a b ≡ shown_as c d → b ≡ d
value_of e = ap (λ (x : Panel). get_or x.values 0 0) e

number_of : {a b c d : ℕ} → shown_as a b ≡ shown_as c d → a ≡ c
number_of e = ap (λ (x : Panel). x.number) e

-- 0 is answered of two sound records, with the number of lines, and the lines stand at the list's front.
pub record Listed (one two list : List ℕ) (beside : ℕ) (left : List ℕ) : Type 0 where
  pub first : sound_words one ≡ true
  pub second : sound_words two ≡ true
  pub many : beside ≡ length (lines_of one two)
  pub lines : left ≡ over (spell_lines (lines_of one two)) list

listed_lines : (one two list : List ℕ) (beside : ℕ) (left : List ℕ) → Compared one two list 0 beside left → Listed one two list beside left
listed_lines one two list beside left d =
    let t = face_differ one two list 0 beside left d in
    by_test (sound_words one)
    (λ a. by_test (sound_words two)
    (λ b. by_test (leb (5 * length (lines_of one two)) (length list))
    (λ h. let w = t.whole a b (leb-true (5 * length (lines_of one two)) (length list) h) in record { first = a; second = b; many = value_of w.0; lines = w.1 })
    (λ h. absurd (omega (arith, number_of (t.cramped a b (leb-false (5 * length (lines_of one two)) (length list) h)).0))))
    (λ b. absurd (omega (arith, number_of (t.second a b).0))))
    (λ a. absurd (omega (arith, number_of (t.first a).0)))

-- ---- a line of five words of 0

side_none : (t : Side) → side_number t ≡ 0 → t ≡ side.Neither
unfolding side_number
side_none side.First e = absurd (omega arith)
side_none side.Second e = absurd (omega arith)
side_none side.Neither e = refl

-- A line of neither side is listed as such.
neither_listed : (x : Line) (xs : List Line) → x.side ≡ side.Neither → listed x.vote side.Neither (x ∷ xs) ≡ true
unfolding listed is_line
neither_listed x xs e =
    let v = x.vote in
    or_left (same_vote v v && eqb (side_number side.Neither) (side_number x.side)) (listed v side.Neither xs)
    (both_and (same_vote v v) (eqb (side_number side.Neither) (side_number x.side))
    (both_and (eqb v.node.0 v.node.0) _ (eq-eqb v.node.0 v.node.0 refl)
    (both_and (eqb v.slot.0 v.slot.0) _ (eq-eqb v.slot.0 v.slot.0 refl)
    (both_and (eqb (vote_number v.kind) (vote_number v.kind)) (eqb v.block v.block) (eq-eqb (vote_number v.kind) (vote_number v.kind) refl) (eq-eqb v.block v.block refl))))
    (eq-eqb (side_number side.Neither) (side_number x.side) (ap side_number (sym e))))

-- One line whose words are all 0 is of neither side.
zero_line : (l m : Ledger) (list : List ℕ) (xs : List Line) → differences l m ≡ xs → length xs ≡ 1 → take 5 (over (spell_lines xs) list) ≡ tables_words → same_tables l m ≡ true → ⊥
unfolding spell_lines
zero_line l m list [] e n f s = absurd (omega arith)
zero_line l m list (x ∷ y ∷ ys) e n f s = absurd (omega arith)
zero_line l m list (x ∷ []) e n f s =
    let front : spell_lines (x ∷ []) ≡ tables_words = sym (over_front (spell_lines (x ∷ [])) list) ∙ f in
    let none : x.side ≡ side.Neither = side_none x.side (ap (λ (ws : List ℕ). get_or ws 4 0) front) in
    true_not_false (listed x.vote side.Neither (x ∷ [])) (neither_listed x [] none) (ap (listed x.vote side.Neither) (sym e) ∙ tables_exactly.no_such_line l m s x.vote)

tables_spelled : spell_lines (tables_line ∷ []) ≡ tables_words
unfolding spell_lines side_number vote_number
tables_spelled = refl

pub face_tables : FaceTables
face_tables =
    record {
      told = λ one two list number beside left a b room other d.
          let apart : same_tables (ledger_of one) (ledger_of two) ≡ false =
          by_test (same_tables (ledger_of one) (ledger_of two)) (λ s. absurd (other ((tables_compared (ledger_of one) (ledger_of two) (sound_ledger one a) (sound_ledger two b)).means s))) (λ s. s) in
          let e : lines_of one two ≡ tables_line ∷ [] = tables_exactly.one_line (ledger_of one) (ledger_of two) apart in
          let z : length (lines_of one two) ≡ 1 = ap length e in
          let w = (face_differ one two list number beside left d).whole a b (omega arith) in
          (number_of w.0, value_of w.0 ∙ z, w.1 ∙ ap (λ (x : List Line). over (spell_lines x) list) e ∙ ap (λ (x : List ℕ). over x list) tables_spelled);
      only = λ one two list left d f same.
          let t = listed_lines one two list 1 left d in
          zero_line (ledger_of one) (ledger_of two) list (lines_of one two) refl (sym t.many) (ap (take 5) (sym t.lines) ∙ f)
          ((tables_compared (ledger_of one) (ledger_of two) (sound_ledger one t.first) (sound_ledger two t.second)).only same);
    }

pub face_none : FaceNone
face_none =
    record {
      means = λ one two list left d.
          let t = listed_lines one two list 0 left d in
          let many = t.many in
          let s : same_tables (ledger_of one) (ledger_of two) ≡ true =
          by_test (same_tables (ledger_of one) (ledger_of two)) (λ s. s)
          (λ s. let z : length (lines_of one two) ≡ 1 = ap length (tables_exactly.one_line (ledger_of one) (ledger_of two) s) in absurd (omega arith)) in
          ((tables_compared (ledger_of one) (ledger_of two) (sound_ledger one t.first) (sound_ledger two t.second)).means s, face_equal.means one two list left d);
      only = λ one two list number beside left a b same votes d.
          face_equal.only one two list number beside left a b ((tables_compared (ledger_of one) (ledger_of two) (sound_ledger one a) (sound_ledger two b)).only same) votes d;
    }
