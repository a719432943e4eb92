-- No line exactly where the stored votes are equal, and the one line of different tables. Assumes nothing.
use mathlib.Core.Path.{◌≡◌, refl, sym, ap, ◌∙◌}
use mathlib.Core.Bool.{Bool, true, false, ◌&&◌}
use mathlib.Core.List.{List, [], ◌∷◌}
use native.Mathlib.Omega.{arith}
use lib.Dec.{eqb}
use lib.ListN.{length}
use borrow.Author.Tests.{eq-eqb}
use Rattle.rulebook.specs.declared.Vote.{Vote}
use Rattle.rulebook.specs.Ledger.{Ledger}
use Rattle.rulebook.specs.PaperNumbers.{vote_number}
use Rattle.rule_laws.proofs.ToolLaws.{given_off, by_test, both_and, or_left, true_not_false}
use Rattle.difference_lines.specs.declared.Side.{Side}
use Rattle.difference_lines.specs.declared.Side.TheVariants as side
use Rattle.difference_lines.specs.Lines.{Line, side_number, stores, vote_lines, same_tables, tables_line, differences}
use Rattle.difference_lines.specs.Promises.{same_vote, is_line, listed, has_alone, NoneExactly, TablesExactly}
use Rattle.difference_lines.proofs.Exactly.{lines_exactly, alone_none}

-- Where neither side has a vote alone, both have it or none.
alone_neither : (a b : Bool) → false ≡ has_alone side.First a b → false ≡ has_alone side.Second a b → a ≡ b
unfolding has_alone
alone_neither true true e f = refl
alone_neither false false e f = refl
alone_neither true false e f = sym e
alone_neither false true e f = f

no_tables : (l m : Ledger) → differences l m ≡ [] → same_tables l m ≡ true
unfolding differences
no_tables l m e =
    by_test (same_tables l m) (λ t. t)
    (λ t.
    let q : length (tables_line ∷ []) ≡ length {A = Line} [] = ap length (sym (given_off (same_tables l m) (tables_line ∷ []) (λ _. vote_lines l m) t) ∙ e) in
    absurd (omega arith))

nothing_listed : (v : Vote) (t : Side) → false ≡ listed v t []
unfolding listed
nothing_listed v t = refl

-- The first line of a list is listed.
first_listed : (x : Line) (xs : List Line) → listed x.vote x.side (x ∷ xs) ≡ true
unfolding listed is_line
first_listed x xs =
    let v = x.vote in
    or_left (same_vote v v && eqb (side_number x.side) (side_number x.side)) (listed v x.side xs)
    (both_and (same_vote v v) (eqb (side_number x.side) (side_number x.side))
    (both_and (eqb v.node.0 v.node.0) _ (eq-eqb v.node.0 v.node.0 refl)
    (both_and (eqb v.slot.0 v.slot.0) _ (eq-eqb v.slot.0 v.slot.0 refl)
    (both_and (eqb (vote_number v.kind) (vote_number v.kind)) (eqb v.block v.block) (eq-eqb (vote_number v.kind) (vote_number v.kind) refl) (eq-eqb v.block v.block refl))))
    (eq-eqb (side_number x.side) (side_number x.side) refl))

none_listed : (xs : List Line) → ((v : Vote) (t : Side) → listed v t xs ≡ false) → xs ≡ []
none_listed [] f = refl
none_listed (x ∷ xs) f = true_not_false (listed x.vote x.side (x ∷ xs)) (first_listed x xs) (f x.vote x.side)

-- "No line means equal stored votes, and only then."
pub none_exactly : NoneExactly
none_exactly =
    record {
      equal_votes = λ l m e v.
          let s = no_tables l m e in
          let says : (t : Side) → false ≡ has_alone t (stores l v) (stores m v) = λ t. nothing_listed v t ∙ ap (listed v t) (sym e) ∙ lines_exactly l m s v t in
          alone_neither (stores l v) (stores m v) (says side.First) (says side.Second);
      no_line = λ l m s f.
          none_listed (differences l m)
          (λ v t. lines_exactly l m s v t ∙ ap (λ (b : Bool). has_alone t (stores l v) b) (sym (f v)) ∙ alone_none t (stores l v));
    }

-- "Different stake tables, own numbers aside, give one line saying so and nothing else."
pub tables_exactly : TablesExactly
unfolding differences has_alone
tables_exactly =
    record {
      one_line = λ l m e. given_off (same_tables l m) (tables_line ∷ []) (λ _. vote_lines l m) e;
      no_such_line = λ l m e v. lines_exactly l m e v side.Neither;
    }
