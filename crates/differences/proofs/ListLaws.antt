-- The whole list of lines in a lent list, or 9; and each way through the call. Assumes nothing.
use Rattle.std.specs.Prelude.{⊤, Result, Ok, Err}
use mathlib.Core.Path.{◌≡◌, refl, sym, ap, ◌∙◌, subst}
use mathlib.Core.Bool.{true, false}
use mathlib.Core.List.{List, [], ◌∷◌}
use Prim.Native.Nat.{ℕ, ◌*◌, ◌≤◌, ◌<◌}
use native.Mathlib.Omega.{arith}
use lib.ListN.{length}
use lib.Dec.{leb}
use borrow.Author.Tests.{le-leb, lt-leb, leb-true, leb-false}
use Rattle.rulebook.specs.Writers.{over}
use Rattle.rule_laws.proofs.ToolLaws.{given_on, given_off, by_test}
use Rattle.record.specs.Layout.{ledger_of}
use Rattle.soundness.specs.Sound.{sound_words}
use Rattle.difference_lines.specs.declared.Side.{Side}
use Rattle.difference_lines.specs.declared.Side.TheVariants as side
use Rattle.differences.specs.declared.DifferRefusal.{DifferRefusal}
use Rattle.differences.specs.declared.DifferRefusal.TheVariants as why
use Rattle.difference_lines.specs.Lines.{Line, spell_lines, tables_line, vote_lines, same_tables, differences}
use Rattle.differences.specs.Rows.{Counted}
use Rattle.differences.specs.Both.{both_sound}
use Rattle.differences.proofs.Both.{side_unsound}
use Rattle.differences.specs.Lent.{Differed, refused_by, listed_in, differ, DifferOf, ListedIn}

-- A refusal leaves the list as found.
pub over_nothing : (list : List ℕ) → over (spell_lines []) list ≡ list
unfolding over spell_lines
over_nothing list = refl

module _ (list : List ℕ) (xs : List Line) where
  pub cramped : length list < 5 * length xs → listed_in (length list) xs ≡ refused_by (Err (why.NoRoom (length xs)))
  unfolding listed_in
  cramped h = given_off (leb (5 * length xs) (length list)) (refused_by (Err (why.NoRoom (length xs)))) _ (lt-leb (5 * length xs) (length list) h)

  pub roomy : 5 * length xs ≤ length list → listed_in (length list) xs ≡ record { answer = Ok (length xs); lines = xs }
  unfolding listed_in
  roomy h = given_on (leb (5 * length xs) (length list)) (refused_by (Err (why.NoRoom (length xs)))) _ (le-leb (5 * length xs) (length list) h)

  -- 9.
  pub list_cramped : (n : ℕ) → n ≡ length xs → length list < 5 * n → ListedIn list xs (Err (why.NoRoom n)) list
  list_cramped n e h =
      let d = cramped (omega arith) in
      record {
        answered = ap (λ (m : ℕ). Err (why.NoRoom m)) e ∙ sym (ap (λ (x : Differed). x.answer) d);
        listed = sym (over_nothing list) ∙ sym (ap (λ (x : Differed). over (spell_lines x.lines) list) d);
      }

  -- All lines from the list's front.
  pub list_whole : {left : List ℕ} {n : ℕ} → 5 * length xs ≤ length list → n ≡ length xs → left ≡ over (spell_lines xs) list → ListedIn list xs (Ok n) left
  list_whole h e w =
      let d = roomy h in
      record {
        answered = ap Ok e ∙ sym (ap (λ (x : Differed). x.answer) d);
        listed = w ∙ sym (ap (λ (x : Differed). over (spell_lines x.lines) list) d);
      }

  -- Of lines that were counted first.
  pub list_counted : {left : List ℕ} {r : Result ℕ ℕ} {q : Result ℕ DifferRefusal} → Counted (length xs) (spell_lines xs) list r left
      → ((m : ℕ) → r ≡ Ok m → q ≡ Ok m) → ((m : ℕ) → r ≡ Err m → q ≡ Err (why.NoRoom m)) → ListedIn list xs q left
  list_counted {left} {r} {q} c f g =
      by_test (leb (5 * length xs) (length list))
      (λ t. let h = leb-true (5 * length xs) (length list) t in
      let k = c.roomy h in
      subst (λ (z : Result ℕ DifferRefusal). ListedIn list xs z left) (sym (f (length xs) k.0)) (list_whole h refl k.1))
      (λ t. let h = leb-false (5 * length xs) (length list) t in
      let k = c.cramped h in
      subst (λ (z : Result ℕ DifferRefusal). ListedIn list xs z left) (sym (g (length xs) k.0)) (subst (λ (z : List ℕ). ListedIn list xs (Err (why.NoRoom (length xs))) z) (sym k.1) (list_cramped (length xs) refl h)))

-- ---- each way through the call

-- Whatever equals the definition is allowed.
differ_of : {one two list left : List ℕ} {r : Result ℕ DifferRefusal} (d : Differed) → differ one two (length list) ≡ d → r ≡ d.answer
    → left ≡ over (spell_lines d.lines) list → DifferOf one two list r left
differ_of {list = list} d e a b =
    record {
      answered = a ∙ sym (ap (λ (x : Differed). x.answer) e);
      listed = b ∙ sym (ap (λ (x : Differed). over (spell_lines x.lines) list) e);
    }

module _ (one two list : List ℕ) where
  -- 17 of the first side.
  pub first_bad : sound_words one ≡ false → DifferOf one two list (Err (why.BadRecord side.First)) list
  unfolding differ
  first_bad e = differ_of (refused_by (Err (why.BadRecord side.First))) (given_off (sound_words one) (refused_by (Err (why.BadRecord side.First))) _ e) refl (sym (over_nothing list))

  -- 17 of the second.
  pub second_bad : sound_words one ≡ true → sound_words two ≡ false → DifferOf one two list (Err (why.BadRecord side.Second)) list
  unfolding differ
  second_bad d e =
      differ_of (refused_by (Err (why.BadRecord side.Second)))
      (given_on (sound_words one) (refused_by (Err (why.BadRecord side.First))) _ d ∙ given_off (sound_words two) (refused_by (Err (why.BadRecord side.Second))) _ e) refl (sym (over_nothing list))

  -- 17 of the side that the test of both names.
  pub side_bad : {r : Result ⊤ Side} {q : Result ℕ DifferRefusal} → r ≡ both_sound one two → (r ≡ Ok tt → ⊥) → ((x : Side) → r ≡ Err x → q ≡ Err (why.BadRecord x)) → DifferOf one two list q list
  side_bad {r = Ok u} {q = q} e n f = absurd (n refl)
  side_bad {r = Err x} {q = q} e n f =
      subst (λ (z : Result ℕ DifferRefusal). DifferOf one two list z list) (sym (f x refl))
      (side_unsound one two (λ s. DifferOf one two list (Err (why.BadRecord s)) list) x (sym e) first_bad second_bad)

  module _ (d : sound_words one ≡ true) (e : sound_words two ≡ true) where
    both_good : differ one two (length list) ≡ listed_in (length list) (differences (ledger_of one) (ledger_of two))
    unfolding differ
    both_good =
        given_on (sound_words one) (refused_by (Err (why.BadRecord side.First))) _ d ∙ given_on (sound_words two) (refused_by (Err (why.BadRecord side.Second))) _ e

    as_listed : {left : List ℕ} {r : Result ℕ DifferRefusal} (xs : List Line) → differences (ledger_of one) (ledger_of two) ≡ xs → ListedIn list xs r left → DifferOf one two list r left
    as_listed xs f w = differ_of (listed_in (length list) xs) (both_good ∙ ap (listed_in (length list)) f) w.answered w.listed

    -- Different stake tables.
    pub tables_differ : {left : List ℕ} {r : Result ℕ DifferRefusal} → same_tables (ledger_of one) (ledger_of two) ≡ false → ListedIn list (tables_line ∷ []) r left → DifferOf one two list r left
    unfolding differences
    tables_differ f w = as_listed (tables_line ∷ []) (given_off (same_tables (ledger_of one) (ledger_of two)) (tables_line ∷ []) _ f) w

    -- The votes that differ.
    pub votes_differ : {left : List ℕ} {r : Result ℕ DifferRefusal} → same_tables (ledger_of one) (ledger_of two) ≡ true → ListedIn list (vote_lines (ledger_of one) (ledger_of two)) r left → DifferOf one two list r left
    unfolding differences
    votes_differ f w = as_listed (vote_lines (ledger_of one) (ledger_of two)) (given_on (same_tables (ledger_of one) (ledger_of two)) (tables_line ∷ []) _ f) w
