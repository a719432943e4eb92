-- Lines put one after another, how many there can be, and what a loop has put so far. Assumes nothing.
use mathlib.Core.Path.{◌≡◌, refl, sym, ap, ap₂, ◌∙◌, subst}
use mathlib.Core.Bool.{Bool, true, false, not, ◌&&◌}
use mathlib.Core.List.{List, [], ◌∷◌, ◌++◌, append_assoc, append-nil}
use Prim.Native.Nat.{ℕ, zero, suc, ◌+◌, ◌*◌, ◌≤◌}
use native.Mathlib.Omega.{arith}
use native.Mathlib.Numerals.{add-one}
use lib.ListN.{length, length-append}
use lib.Dec.{ltb}
use borrow.Author.Tests.{ne_eqb, not-true}
use Rattle.rulebook.specs.declared.Cell.{Cell}
use Rattle.rulebook.specs.declared.Vote.{Vote}
use Rattle.rulebook.specs.declared.VoteKind.{VoteKind}
use Rattle.rulebook.specs.declared.VoteKind.TheVariants as vote
use Rattle.rulebook.specs.Tools.{lowest}
use Rattle.rulebook.specs.Weights.{most_nodes, last_slot}
use Rattle.rulebook.specs.Ledger.{Ledger, none, cell_at}
use Rattle.rule_laws.proofs.ToolLaws.{given_on, given_off, by_test, and_both, true_not_false}
use Rattle.difference_lines.specs.declared.Side.TheVariants as side
use Rattle.difference_lines.specs.Lines.{Line, line_for, spell_line, spell_lines, vote_at, keeps, line_of, vote_line, blocks_of, most_named, ascending, lines_over, block_lines, cell_lines, lines_to, node_lines, slot_lines, vote_lines}
use Rattle.differences.specs.Rows.{most_lines}
use Rattle.differences.specs.Lent.{Laid}
use Rattle.differences.proofs.Rows.{Spelled, spelled_by, laid_none, laid_then, laid_as}

-- ---- one run of lines after another

pub spelled : Spelled spell_lines
unfolding spell_lines
spelled = spelled_by spell_line (λ x. refl) refl (λ x xs. refl)

-- The three ways to tell a vote of two cells.
module _ (v : Vote) {list left : List ℕ} {at next : ℕ} (a b x y : Bool) (p : x ≡ a) (q : y ≡ b) where
  pub told_first : (x && not y) ≡ true → Laid list at (line_for v side.First ∷ []) left next → Laid list at (line_of v a b) left next
  unfolding line_of
  told_first e w =
      let f = and_both x (not y) e in
      let k : line_for v side.First ∷ [] ≡ line_of v a b = rw (← p, ← q, f.0, not-true y f.1) in
      laid_as k w

  pub told_second : (y && not x) ≡ true → Laid list at (line_for v side.Second ∷ []) left next → Laid list at (line_of v a b) left next
  unfolding line_of
  told_second e w =
      let f = and_both y (not x) e in
      let k : line_for v side.Second ∷ [] ≡ line_of v a b = rw (← p, ← q, f.0, not-true x f.1) in
      laid_as k w

no_line : (v : Vote) (x y : Bool) → (x && not y) ≡ false → (y && not x) ≡ false → line_of v x y ≡ []
unfolding line_of
no_line v true true e f = refl
no_line v false false e f = refl
no_line v true false e f = true_not_false true refl e
no_line v false true e f = true_not_false true refl f

pub told_none : (v : Vote) {list : List ℕ} {at : ℕ} (a b x y : Bool) → x ≡ a → y ≡ b → (x && not y) ≡ false → (y && not x) ≡ false
    → Laid list at (line_of v a b) list at
told_none v {list} {at} a b x y p q e f = laid_as (sym (ap₂ (line_of v) (sym p) (sym q) ∙ no_line v x y e f)) (laid_none spelled list at)

-- ---- the loop over the blocks of a kind

module _ (f : ℕ → List Line) (bs : List ℕ) (x : ℕ) where
  -- Where no block is above x, no line is left.
  pub over_done : (k : ℕ) → lowest (ltb x) bs ≡ 0 → lines_over f (ascending bs x k) ≡ []
  unfolding ascending lines_over
  over_done zero e = refl
  over_done (suc k) e =
      let z : not (none (lowest (ltb x) bs)) ≡ false = rw e in
      ap (lines_over f) (given_off (not (none (lowest (ltb x) bs))) [] (λ _. lowest (ltb x) bs ∷ ascending bs (lowest (ltb x) bs) k) z)

  -- Else the lines of the lowest, and then of those above it.
  pub over_more : (b k : ℕ) → b ≡ lowest (ltb x) bs → (b ≡ 0 → ⊥) → lines_over f (ascending bs x (suc k)) ≡ f b ++ lines_over f (ascending bs b k)
  unfolding ascending lines_over
  over_more b k e h =
      let z : not (none (lowest (ltb x) bs)) ≡ true = rw (← e, ne_eqb b 0 h) in
      ap (lines_over f) (given_on (not (none (lowest (ltb x) bs))) [] (λ _. lowest (ltb x) bs ∷ ascending bs (lowest (ltb x) bs) k) z)
      ∙ ap (λ (y : ℕ). f y ++ lines_over f (ascending bs y k)) (sym e)

  pub over_end : lines_over f (ascending bs x 0) ≡ []
  unfolding ascending lines_over
  over_end = refl

-- The lines of the first blocks are put, and with those of `left` more blocks above x they are all.
pub record Going (list : List ℕ) (at : ℕ) (all : List Line) (f : ℕ → List Line) (bs now : List ℕ) (next x left : ℕ) : Type 0 where
  pub done : List Line
  pub laid : Laid list at done now next
  pub whole : done ++ lines_over f (ascending bs x left) ≡ all

module _ {list : List ℕ} {at : ℕ} (s n : ℕ) (c d : Cell) (k : VoteKind) where
  pub over_start : Going list at (block_lines s n c d k) (λ b. vote_line c d (vote_at s n k b)) (blocks_of k c d) list at 0 most_named
  unfolding block_lines
  over_start = record { done = []; laid = laid_none spelled list at; whole = refl }

module _ {list now : List ℕ} {at next x left : ℕ} {all : List Line} {f : ℕ → List Line} {bs : List ℕ} (g : Going list at all f bs now next x left) where
  pub over_next : {now' : List ℕ} {next' : ℕ} (b k : ℕ) → left ≡ suc k → b ≡ lowest (ltb x) bs → (b ≡ 0 → ⊥) → Laid now next (f b) now' next'
      → Going list at all f bs now' next' b k
  over_next b k q e h w =
      record {
        done = g.done ++ f b;
        laid = laid_then spelled g.laid w;
        whole = append_assoc g.done (f b) (lines_over f (ascending bs b k))
            ∙ ap (λ (z : List Line). g.done ++ z) (sym (over_more f bs x b k e h))
            ∙ ap (λ (m : ℕ). g.done ++ lines_over f (ascending bs x m)) (sym q) ∙ g.whole;
      }

  pub over_early : (b : ℕ) → b ≡ lowest (ltb x) bs → b ≡ 0 → Laid list at all now next
  over_early b e z =
      laid_as (sym (append-nil g.done) ∙ ap (λ (y : List Line). g.done ++ y) (sym (over_done f bs x left (sym e ∙ z))) ∙ g.whole) g.laid

  pub over_last : left ≡ 0 → Laid list at all now next
  over_last q =
      laid_as (sym (append-nil g.done) ∙ ap (λ (y : List Line). g.done ++ y) (sym (over_end f bs x))
      ∙ ap (λ (m : ℕ). g.done ++ lines_over f (ascending bs x m)) (sym q) ∙ g.whole) g.laid

-- ---- how many lines

pub line_most : (v : Vote) (a b : Bool) → length (line_of v a b) ≤ 1
unfolding line_of
line_most v true true = omega arith
line_most v true false = omega arith
line_most v false true = omega arith
line_most v false false = omega arith

ascending_most : (bs : List ℕ) (x k : ℕ) → length (ascending bs x k) ≤ k
unfolding ascending
ascending_most bs x zero = omega arith
ascending_most bs x (suc k) =
    let b = lowest (ltb x) bs in
    by_test (not (none b))
    (λ e. rw (given_on (not (none b)) [] (λ _. b ∷ ascending bs b k) e) (omega (arith, ascending_most bs b k)))
    (λ e. rw (given_off (not (none b)) [] (λ _. b ∷ ascending bs b k) e) (omega arith))

over_most : (f : ℕ → List Line) (bs : List ℕ) → ((b : ℕ) → length (f b) ≤ 1) → length (lines_over f bs) ≤ length bs
unfolding lines_over
over_most f [] h = omega arith
over_most f (b ∷ bs) h = omega (arith, length-append (f b) (lines_over f bs), h b, over_most f bs h)

pub block_most : (s n : ℕ) (c d : Cell) (k : VoteKind) → length (block_lines s n c d k) ≤ 6
unfolding block_lines
block_most s n c d k =
    let f : ℕ → List Line = λ b. vote_line c d (vote_at s n k b) in
    let bs = ascending (blocks_of k c d) 0 most_named in
    omega (arith, over_most f bs (λ b. line_most (vote_at s n k b) (keeps c k b) (keeps d k b)), ascending_most (blocks_of k c d) 0 most_named)

pub cell_most : (s n : ℕ) (c d : Cell) → length (cell_lines s n c d) ≤ 15
unfolding cell_lines
cell_most s n c d =
    let x = block_lines s n c d vote.Notar in
    let y = block_lines s n c d vote.NotarFallback in
    let u = vote_line c d (vote_at s n vote.Skip 0) in
    let v = vote_line c d (vote_at s n vote.SkipFallback 0) in
    let w = vote_line c d (vote_at s n vote.Final 0) in
    omega (
      arith,
      length-append x (y ++ (u ++ (v ++ w))),
      length-append y (u ++ (v ++ w)),
      length-append u (v ++ w),
      length-append v w,
      block_most s n c d vote.Notar,
      block_most s n c d vote.NotarFallback,
      line_most (vote_at s n vote.Skip 0) (keeps c vote.Skip 0) (keeps d vote.Skip 0),
      line_most (vote_at s n vote.SkipFallback 0) (keeps c vote.SkipFallback 0) (keeps d vote.SkipFallback 0),
      line_most (vote_at s n vote.Final 0) (keeps c vote.Final 0) (keeps d vote.Final 0),
    )

pub to_none : (f : ℕ → List Line) → lines_to 0 f ≡ []
unfolding lines_to
to_none f = refl

pub to_more : (n : ℕ) (f : ℕ → List Line) → lines_to (n + 1) f ≡ lines_to n f ++ f n
unfolding lines_to
to_more n f = rw add-one

pub to_most : (n k : ℕ) (f : ℕ → List Line) → ((i : ℕ) → length (f i) ≤ k) → length (lines_to n f) ≤ k * n
unfolding lines_to
to_most zero k f h = omega arith
to_most (suc n) k f h = omega (arith, length-append (lines_to n f) (f n), h n, to_most n k f h)

pub row_most : (l m : Ledger) (s n : ℕ) → length (lines_to n (node_lines l m s)) ≤ 15 * n
row_most l m s n = to_most n 15 (node_lines l m s) (λ i. cell_most s i (cell_at l s i) (cell_at m s i))

pub slot_most : (l m : Ledger) (s : ℕ) → l.count ≤ most_nodes → length (slot_lines l m s) ≤ 30720
unfolding slot_lines
slot_most l m s h = omega (arith, row_most l m s l.count)

pub slots_most : (l m : Ledger) (n : ℕ) → l.count ≤ most_nodes → length (lines_to n (λ i. slot_lines l m (suc i))) ≤ 30720 * n
slots_most l m n h = to_most n 30720 (λ i. slot_lines l m (suc i)) (λ i. slot_most l m (suc i) h)

pub votes_most : (l m : Ledger) → l.count ≤ most_nodes → length (vote_lines l m) ≤ most_lines
unfolding vote_lines
votes_most l m h = omega (arith, slots_most l m last_slot h)

-- ---- equal cells

same_line : (v : Vote) (a : Bool) → line_of v a a ≡ []
unfolding line_of
same_line v true = refl
same_line v false = refl

over_none : (f : ℕ → List Line) (bs : List ℕ) → ((b : ℕ) → f b ≡ []) → lines_over f bs ≡ []
unfolding lines_over
over_none f [] h = refl
over_none f (b ∷ bs) h = rw (h b) (over_none f bs h)

-- They have no line.
same_none : (s n : ℕ) (c d : Cell) → c ≡ d → cell_lines s n c d ≡ []
unfolding cell_lines block_lines
same_none s n c d e =
    subst (λ (z : Cell). cell_lines s n c z ≡ []) e
    (let x = over_none (λ b. vote_line c c (vote_at s n vote.Notar b)) (ascending (blocks_of vote.Notar c c) 0 most_named) (λ b. same_line (vote_at s n vote.Notar b) (keeps c vote.Notar b)) in
    let y = over_none (λ b. vote_line c c (vote_at s n vote.NotarFallback b)) (ascending (blocks_of vote.NotarFallback c c) 0 most_named) (λ b. same_line (vote_at s n vote.NotarFallback b) (keeps c vote.NotarFallback b)) in
    rw (x, y, same_line (vote_at s n vote.Skip 0) (keeps c vote.Skip 0), same_line (vote_at s n vote.SkipFallback 0) (keeps c vote.SkipFallback 0), same_line (vote_at s n vote.Final 0) (keeps c vote.Final 0)))

pub same_put : (s n : ℕ) (c d : Cell) {list : List ℕ} {at : ℕ} → c ≡ d → Laid list at (cell_lines s n c d) list at
same_put s n c d {list} {at} e = laid_as (sym (same_none s n c d e)) (laid_none spelled list at)

-- ---- the loops over nodes and slots

module _ {list now : List ℕ} {at next : ℕ} (f : ℕ → List Line) (n : ℕ) (w : Laid list at (lines_to n f) now next) where
  pub next_put : {now' : List ℕ} {next' : ℕ} → Laid now next (f n) now' next' → Laid list at (lines_to (n + 1) f) now' next'
  next_put v = laid_as (sym (to_more n f)) (laid_then spelled w v)

  pub next_last : (m : ℕ) → n ≡ m → Laid list at (lines_to m f) now next
  next_last m e = laid_as (ap (λ (k : ℕ). lines_to k f) e) w

pub first_put : (list : List ℕ) (at : ℕ) (f : ℕ → List Line) → Laid list at (lines_to 0 f) list at
first_put list at f = laid_as (sym (to_none f)) (laid_none spelled list at)
