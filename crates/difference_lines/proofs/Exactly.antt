-- A line stands exactly for each stored vote that one side has and the other has not. Assumes nothing.
use mathlib.Core.Path.{◌≡◌, refl, sym, ap, ap₂, ◌∙◌}
use mathlib.Core.Bool.{Bool, true, false, not, ◌&&◌, ◌||◌}
use mathlib.Core.List.{List, [], ◌∷◌, ◌++◌}
use Prim.Native.Nat.{ℕ, zero, suc, ◌≤◌}
use native.Mathlib.Omega.{arith}
use lib.Dec.{eqb, leb, ltb}
use lib.ListN.{length}
use borrow.Author.Tests.{eq-eqb, ne_eqb, eqb-true, eqb-false, ltb-true, lt-ltb, le-leb, leb-true, not-true}
use Rattle.rulebook.specs.declared.Cell.{Cell}
use Rattle.rulebook.specs.declared.Vote.{Vote}
use Rattle.rulebook.specs.declared.VoteKind.{VoteKind}
use Rattle.rulebook.specs.declared.VoteKind.TheVariants as vote
use Rattle.rulebook.specs.Tools.{any_of, some_to}
use Rattle.rulebook.specs.Weights.{last_slot, slot_ok}
use Rattle.rulebook.specs.PaperNumbers.{vote_number}
use Rattle.rulebook.specs.Ledger.{Ledger, none, no_initial, cell_at}
use Rattle.rulebook.specs.Pool.{has_fallback}
use Rattle.rulebook.specs.Votes.{place_if, place_of}
use Rattle.rulebook.specs.Inputs.{misfits}
use Rattle.rule_laws.proofs.ToolLaws.{given_on, and_both, both_and, or_cases, or_left, or_right, true_not_false, same_test, some_at, some_find}
use Rattle.difference_lines.specs.declared.Side.{Side}
use Rattle.difference_lines.specs.declared.Side.TheVariants as side
use Rattle.difference_lines.specs.Lines.{Line, side_number, is_same, keeps, stores, vote_at, line_of, vote_line, blocks_of, most_named, ascending, lines_over, block_lines, cell_lines, lines_to, node_lines, slot_lines, vote_lines, same_tables, tables_line, differences}
use Rattle.difference_lines.specs.Promises.{same_vote, is_line, listed, has_alone, ExactlyTheOthers}
use Rattle.difference_lines.proofs.Ascending.{ascending_whole}

-- ---- tests joined

or_false : (a : Bool) → (a || false) ≡ a
or_false true = refl
or_false false = refl

or_join : (a b c : Bool) → ((a || b) || c) ≡ (a || (b || c))
or_join true b c = refl
or_join false b c = refl

and_off : (a : Bool) → (a && false) ≡ false
and_off true = refl
and_off false = refl

and_swap : (a b c : Bool) → (a && (b && c)) ≡ (b && (a && c))
and_swap true b c = refl
and_swap false true c = refl
and_swap false false c = refl

-- ---- lines one after another

module _ (v : Vote) (t : Side) where
  listed_append : (xs ys : List Line) → listed v t (xs ++ ys) ≡ (listed v t xs || listed v t ys)
  unfolding listed
  listed_append [] ys = refl
  listed_append (x ∷ xs) ys = ap (λ (b : Bool). is_line v t x || b) (listed_append xs ys) ∙ sym (or_join (is_line v t x) (listed v t xs) (listed v t ys))

  listed_to : (n : ℕ) (f : ℕ → List Line) → listed v t (lines_to n f) ≡ some_to n (λ i. listed v t (f i))
  unfolding lines_to some_to listed
  listed_to zero f = refl
  listed_to (suc n) f = listed_append (lines_to n f) (f n) ∙ ap (λ (b : Bool). b || listed v t (f n)) (listed_to n f)

pub alone_none : (t : Side) (a : Bool) → has_alone t a a ≡ false
unfolding has_alone
alone_none side.First true = refl
alone_none side.First false = refl
alone_none side.Second true = refl
alone_none side.Second false = refl
alone_none side.Neither a = refl

-- One line, of the side that has the vote.
one_first : (t : Side) → eqb (side_number t) 1 ≡ has_alone t true false
unfolding has_alone side_number
one_first side.First = refl
one_first side.Second = refl
one_first side.Neither = refl

one_second : (t : Side) → eqb (side_number t) 2 ≡ has_alone t false true
unfolding has_alone side_number
one_second side.First = refl
one_second side.Second = refl
one_second side.Neither = refl

listed_one : (v w : Vote) (t : Side) (a b : Bool) → listed v t (line_of w a b) ≡ (same_vote v w && has_alone t a b)
unfolding listed line_of is_line side_number
listed_one v w t true true = sym (ap (λ (x : Bool). same_vote v w && x) (alone_none t true) ∙ and_off (same_vote v w))
listed_one v w t false false = sym (ap (λ (x : Bool). same_vote v w && x) (alone_none t false) ∙ and_off (same_vote v w))
listed_one v w t true false = or_false (same_vote v w && eqb (side_number t) 1) ∙ ap (λ (x : Bool). same_vote v w && x) (one_first t)
listed_one v w t false true = or_false (same_vote v w && eqb (side_number t) 2) ∙ ap (λ (x : Bool). same_vote v w && x) (one_second t)

-- ---- the blocks of a kind

-- One block more.
block_step : (n s k e any here there : Bool) → (e ≡ true → here ≡ there)
    → (((n && (s && (k && e))) && here) || (n && (s && (k && (any && there))))) ≡ (n && (s && (k && ((e || any) && there))))
block_step false s k e any here there f = refl
block_step true false k e any here there f = refl
block_step true true false e any here there f = refl
block_step true true true false any here there f = refl
block_step true true true true true here there f = ap (λ (x : Bool). x || there) (f refl) ∙ twice there
  where
    twice : (a : Bool) → (a || a) ≡ a
    twice true = refl
    twice false = refl
block_step true true true true false here there f = or_false here ∙ f refl

module _ (s n : ℕ) (c d : Cell) (k : VoteKind) (v : Vote) (t : Side) where
  -- The two cells differ in the vote's block.
  abbrev apart_at : ℕ → Bool
  apart_at b = has_alone t (keeps c k b) (keeps d k b)

  listed_over : (bs : List ℕ)
      → listed v t (lines_over (λ b. vote_line c d (vote_at s n k b)) bs)
      ≡ (eqb v.node.0 n && (eqb v.slot.0 s && (eqb (vote_number v.kind) (vote_number k) && (any_of (eqb v.block) bs && apart_at v.block))))
  unfolding lines_over listed any_of
  listed_over [] =
      sym (ap (λ (x : Bool). eqb v.node.0 n && x)
      (ap (λ (x : Bool). eqb v.slot.0 s && x) (and_off (eqb (vote_number v.kind) (vote_number k))) ∙ and_off (eqb v.slot.0 s))
      ∙ and_off (eqb v.node.0 n))
  listed_over (b ∷ bs) =
      listed_append v t (vote_line c d (vote_at s n k b)) (lines_over (λ x. vote_line c d (vote_at s n k x)) bs)
      ∙ ap₂ (λ (x y : Bool). x || y) (listed_one v (vote_at s n k b) t (keeps c k b) (keeps d k b)) (listed_over bs)
      ∙ block_step (eqb v.node.0 n) (eqb v.slot.0 s) (eqb (vote_number v.kind) (vote_number k)) (eqb v.block b) (any_of (eqb v.block) bs)
      (apart_at b) (apart_at v.block) (λ e. ap apart_at (sym (eqb-true v.block b e)))

  listed_blocks : length (blocks_of k c d) ≤ most_named
      → listed v t (block_lines s n c d k)
      ≡ (eqb v.node.0 n && (eqb v.slot.0 s && (eqb (vote_number v.kind) (vote_number k) && ((ltb 0 v.block && any_of (eqb v.block) (blocks_of k c d)) && apart_at v.block))))
  unfolding block_lines
  listed_blocks h =
      listed_over (ascending (blocks_of k c d) 0 most_named)
      ∙ ap (λ (x : Bool). eqb v.node.0 n && (eqb v.slot.0 s && (eqb (vote_number v.kind) (vote_number k) && (x && apart_at v.block))))
      (ascending_whole (blocks_of k c d) v.block most_named h)

-- ---- what a cell keeps

same_if : (a b : Bool) → is_same (place_if a b) ≡ a
unfolding is_same place_if
same_if true b = refl
same_if false true = refl
same_if false false = refl

-- A cell that keeps a vote for a block names the block.
notar_named : (c : Cell) (b : ℕ) → keeps c vote.Notar b ≡ true → eqb b c.notar ≡ true
unfolding keeps place_of
notar_named c b e = let q = eqb-true c.notar b (sym (same_if (eqb c.notar b) (no_initial c)) ∙ e) in eq-eqb b c.notar (sym q)

fallback_named : (c : Cell) (b : ℕ) → keeps c vote.NotarFallback b ≡ true → any_of (eqb b) (c.fallback1 ∷ c.fallback2 ∷ c.fallback3 ∷ []) ≡ true
unfolding keeps place_of has_fallback any_of
fallback_named c b e =
    or_cases (eqb c.fallback1 b) (eqb c.fallback2 b || eqb c.fallback3 b) (sym (same_if (has_fallback b c) (none c.fallback3)) ∙ e)
    (λ t. or_left (eqb b c.fallback1) (eqb b c.fallback2 || (eqb b c.fallback3 || false)) (turned c.fallback1 t))
    (λ u. or_right (eqb b c.fallback1) (eqb b c.fallback2 || (eqb b c.fallback3 || false))
    (or_cases (eqb c.fallback2 b) (eqb c.fallback3 b) u
    (λ t. or_left (eqb b c.fallback2) (eqb b c.fallback3 || false) (turned c.fallback2 t))
    (λ t. or_right (eqb b c.fallback2) (eqb b c.fallback3 || false) (or_left (eqb b c.fallback3) false (turned c.fallback3 t)))))
  where
    turned : (x : ℕ) → eqb x b ≡ true → eqb b x ≡ true
    turned x t = eq-eqb b x (sym (eqb-true x b t))

-- Where one side has the vote alone, one side has it.
alone_some {ℓ} : {X : Type ℓ} (t : Side) (a b : Bool) → has_alone t a b ≡ true → (a ≡ true → X) → (b ≡ true → X) → X
unfolding has_alone
alone_some side.First a b e f g = f (and_both a (not b) e).0
alone_some side.Second a b e f g = g (and_both b (not a) e).0
alone_some side.Neither a b e f g = true_not_false false e refl

any_join : (p : ℕ → Bool) (xs ys : List ℕ) → any_of p (xs ++ ys) ≡ (any_of p xs || any_of p ys)
unfolding any_of
any_join p [] ys = refl
any_join p (x ∷ xs) ys = ap (λ (b : Bool). p x || b) (any_join p xs ys) ∙ sym (or_join (p x) (any_of p xs) (any_of p ys))

above_zero : (b : ℕ) → ltb 0 b ≡ not (none b)
above_zero b =
    same_test (ltb 0 b) (not (none b)) (λ e. let h = ltb-true 0 b e in rw (ne_eqb b 0 (λ q. omega arith)))
    (λ e. lt-ltb 0 b (omega (arith, eqb-false b 0 (not-true (none b) e))))

enough : (a any z alone : Bool) → a ≡ z → (alone ≡ true → any ≡ true) → ((a && any) && alone) ≡ (z && alone)
enough true true z alone e f = ap (λ (x : Bool). x && alone) e
enough true false z false e f = and_off (true && false) ∙ sym (and_off z)
enough true false z true e f = true_not_false false (f refl) refl
enough false any z alone e f = ap (λ (x : Bool). x && alone) e

-- So the blocks that are looked at are enough.
module _ (c d : Cell) (t : Side) (b : ℕ) where
  notar_enough : ((ltb 0 b && any_of (eqb b) (blocks_of vote.Notar c d)) && has_alone t (keeps c vote.Notar b) (keeps d vote.Notar b))
      ≡ (not (misfits vote.Notar b) && has_alone t (keeps c vote.Notar b) (keeps d vote.Notar b))
  unfolding blocks_of any_of misfits
  notar_enough =
      enough (ltb 0 b) (any_of (eqb b) (blocks_of vote.Notar c d)) (not (none b)) (has_alone t (keeps c vote.Notar b) (keeps d vote.Notar b)) (above_zero b)
      (λ e. alone_some t (keeps c vote.Notar b) (keeps d vote.Notar b) e
      (λ f. or_left (eqb b c.notar) (eqb b d.notar || false) (notar_named c b f))
      (λ f. or_right (eqb b c.notar) (eqb b d.notar || false) (or_left (eqb b d.notar) false (notar_named d b f))))

  fallback_enough : ((ltb 0 b && any_of (eqb b) (blocks_of vote.NotarFallback c d)) && has_alone t (keeps c vote.NotarFallback b) (keeps d vote.NotarFallback b))
      ≡ (not (misfits vote.NotarFallback b) && has_alone t (keeps c vote.NotarFallback b) (keeps d vote.NotarFallback b))
  unfolding blocks_of misfits
  fallback_enough =
      let xs : List ℕ = c.fallback1 ∷ c.fallback2 ∷ c.fallback3 ∷ [] in
      let ys : List ℕ = d.fallback1 ∷ d.fallback2 ∷ d.fallback3 ∷ [] in
      enough (ltb 0 b) (any_of (eqb b) (xs ++ ys)) (not (none b)) (has_alone t (keeps c vote.NotarFallback b) (keeps d vote.NotarFallback b)) (above_zero b)
      (λ e. any_join (eqb b) xs ys
      ∙ alone_some t (keeps c vote.NotarFallback b) (keeps d vote.NotarFallback b) e
      (λ f. or_left (any_of (eqb b) xs) (any_of (eqb b) ys) (fallback_named c b f))
      (λ f. or_right (any_of (eqb b) xs) (any_of (eqb b) ys) (fallback_named d b f)))

-- ---- one of five tests

module _ {a b c d e r : Bool} where
  first_of : a ≡ r → b ≡ false → c ≡ false → d ≡ false → e ≡ false → (a || (b || (c || (d || e)))) ≡ r
  first_of p q x y z = (λ i. p i || (q i || (x i || (y i || z i)))) ∙ or_false r

  second_of_lem : a ≡ false → b ≡ r → c ≡ false → d ≡ false → e ≡ false → (a || (b || (c || (d || e)))) ≡ r
  second_of_lem p q x y z = (λ i. p i || (q i || (x i || (y i || z i)))) ∙ or_false r

  third_of : a ≡ false → b ≡ false → c ≡ r → d ≡ false → e ≡ false → (a || (b || (c || (d || e)))) ≡ r
  third_of p q x y z = (λ i. p i || (q i || (x i || (y i || z i)))) ∙ or_false r

  fourth_of : a ≡ false → b ≡ false → c ≡ false → d ≡ r → e ≡ false → (a || (b || (c || (d || e)))) ≡ r
  fourth_of p q x y z = (λ i. p i || (q i || (x i || (y i || z i)))) ∙ or_false r

  fifth_of : a ≡ false → b ≡ false → c ≡ false → d ≡ false → e ≡ r → (a || (b || (c || (d || e)))) ≡ r
  fifth_of p q x y z = λ i. p i || (q i || (x i || (y i || z i)))

kind_off : (n s k x : Bool) → k ≡ false → (n && (s && (k && x))) ≡ false
kind_off false s k x e = refl
kind_off true false k x e = refl
kind_off true true k x e = ap (λ (y : Bool). y && x) e

flag_told : (n s k z m here there : Bool) → k ≡ true → m ≡ not z → (z ≡ true → here ≡ there)
    → ((n && (s && (k && z))) && here) ≡ (n && (s && (not m && there)))
flag_told false s k z m here there e f g = refl
flag_told true false k z m here there e f g = refl
flag_told true true k true m here there e f g = ap (λ (y : Bool). (y && true) && here) e ∙ g refl ∙ sym (ap (λ (y : Bool). not y && there) f)
flag_told true true k false m here there e f g = ap (λ (y : Bool). (y && false) && here) e ∙ sym (ap (λ (y : Bool). not y && there) f)

-- No cell keeps a vote of another kind.
keeps_other : (x : Cell) (b : ℕ) → keeps x vote.Other b ≡ false
unfolding keeps place_of is_same
keeps_other x b = refl

none_told : (p q : Bool) (c d : Cell) (t : Side) (b : ℕ) → (p && (q && has_alone t (keeps c vote.Other b) (keeps d vote.Other b))) ≡ false
none_told p q c d t b =
    ap (λ (x : Bool). p && (q && x)) (ap₂ (has_alone t) (keeps_other c b) (keeps_other d b) ∙ alone_none t false) ∙ ap (λ (x : Bool). p && x) (and_off q) ∙ and_off p

-- ---- one node in one slot

-- What is to be shown of a vote of a kind: its node, its slot, and that one side keeps it alone.
module _ (s n : ℕ) (c d : Cell) (t : Side) where
  abbrev told : VoteKind → Vote → Bool
  told k v = eqb v.node.0 n && (eqb v.slot.0 s && (not (misfits k v.block) && has_alone t (keeps c k v.block) (keeps d k v.block)))

  -- Lines of another kind do not stand for it.
  other_blocks : (v : Vote) (k : VoteKind) → length (blocks_of k c d) ≤ most_named → eqb (vote_number v.kind) (vote_number k) ≡ false
      → listed v t (block_lines s n c d k) ≡ false
  other_blocks v k h e = listed_blocks s n c d k v t h ∙ kind_off (eqb v.node.0 n) (eqb v.slot.0 s) _ _ e

  other_vote : (v : Vote) (k : VoteKind) (b : ℕ) → eqb (vote_number v.kind) (vote_number k) ≡ false → listed v t (vote_line c d (vote_at s n k b)) ≡ false
  other_vote v k b e =
      listed_one v (vote_at s n k b) t (keeps c k b) (keeps d k b) ∙ ap (λ (x : Bool). x && has_alone t (keeps c k b) (keeps d k b)) (kind_off (eqb v.node.0 n) (eqb v.slot.0 s) _ _ e)

  -- A vote that carries no block.
  this_vote : (v : Vote) (k : VoteKind) → eqb (vote_number v.kind) (vote_number k) ≡ true → misfits k v.block ≡ not (none v.block)
      → listed v t (vote_line c d (vote_at s n k 0)) ≡ told k v
  this_vote v k e m =
      listed_one v (vote_at s n k 0) t (keeps c k 0) (keeps d k 0)
      ∙ flag_told (eqb v.node.0 n) (eqb v.slot.0 s) (eqb (vote_number v.kind) (vote_number k)) (none v.block) (misfits k v.block)
      (has_alone t (keeps c k 0) (keeps d k 0)) (has_alone t (keeps c k v.block) (keeps d k v.block)) e m
      (λ z. ap (λ (b : ℕ). has_alone t (keeps c k b) (keeps d k b)) (sym (eqb-true v.block 0 z)))

  -- A vote for a block.
  this_block : (v : Vote) (k : VoteKind) → length (blocks_of k c d) ≤ most_named → eqb (vote_number v.kind) (vote_number k) ≡ true
      → ((ltb 0 v.block && any_of (eqb v.block) (blocks_of k c d)) && has_alone t (keeps c k v.block) (keeps d k v.block))
      ≡ (not (misfits k v.block) && has_alone t (keeps c k v.block) (keeps d k v.block))
      → listed v t (block_lines s n c d k) ≡ told k v
  this_block v k h e m =
      listed_blocks s n c d k v t h
      ∙ ap₂ (λ (x y : Bool). eqb v.node.0 n && (eqb v.slot.0 s && (x && y))) e m

  cell_split : (v : Vote) → listed v t (cell_lines s n c d)
      ≡ (listed v t (block_lines s n c d vote.Notar)
      || (listed v t (block_lines s n c d vote.NotarFallback)
      || (listed v t (vote_line c d (vote_at s n vote.Skip 0)) || (listed v t (vote_line c d (vote_at s n vote.SkipFallback 0)) || listed v t (vote_line c d (vote_at s n vote.Final 0))))))
  unfolding cell_lines
  cell_split v =
      listed_append v t (block_lines s n c d vote.Notar) _
      ∙ ap (λ (x : Bool). listed v t (block_lines s n c d vote.Notar) || x)
      (listed_append v t (block_lines s n c d vote.NotarFallback) _
      ∙ ap (λ (x : Bool). listed v t (block_lines s n c d vote.NotarFallback) || x)
      (listed_append v t (vote_line c d (vote_at s n vote.Skip 0)) _
      ∙ ap (λ (x : Bool). listed v t (vote_line c d (vote_at s n vote.Skip 0)) || x)
      (listed_append v t (vote_line c d (vote_at s n vote.SkipFallback 0)) (vote_line c d (vote_at s n vote.Final 0)))))

  listed_cell : (s' n' : ℕ) (k : VoteKind) (b : ℕ) → listed (vote_at s' n' k b) t (cell_lines s n c d) ≡ told k (vote_at s' n' k b)
  unfolding vote_number misfits blocks_of
  listed_cell s' n' vote.Notar b =
      let v = vote_at s' n' vote.Notar b in
      cell_split v ∙ first_of (this_block v vote.Notar (omega arith) refl (notar_enough c d t b)) (other_blocks v vote.NotarFallback (omega arith) refl)
      (other_vote v vote.Skip 0 refl) (other_vote v vote.SkipFallback 0 refl) (other_vote v vote.Final 0 refl)
  listed_cell s' n' vote.NotarFallback b =
      let v = vote_at s' n' vote.NotarFallback b in
      cell_split v ∙ second_of_lem (other_blocks v vote.Notar (omega arith) refl) (this_block v vote.NotarFallback (omega arith) refl (fallback_enough c d t b))
      (other_vote v vote.Skip 0 refl) (other_vote v vote.SkipFallback 0 refl) (other_vote v vote.Final 0 refl)
  listed_cell s' n' vote.Skip b =
      let v = vote_at s' n' vote.Skip b in
      cell_split v ∙ third_of (other_blocks v vote.Notar (omega arith) refl) (other_blocks v vote.NotarFallback (omega arith) refl)
      (this_vote v vote.Skip refl refl) (other_vote v vote.SkipFallback 0 refl) (other_vote v vote.Final 0 refl)
  listed_cell s' n' vote.SkipFallback b =
      let v = vote_at s' n' vote.SkipFallback b in
      cell_split v ∙ fourth_of (other_blocks v vote.Notar (omega arith) refl) (other_blocks v vote.NotarFallback (omega arith) refl)
      (other_vote v vote.Skip 0 refl) (this_vote v vote.SkipFallback refl refl) (other_vote v vote.Final 0 refl)
  listed_cell s' n' vote.Final b =
      let v = vote_at s' n' vote.Final b in
      cell_split v ∙ fifth_of (other_blocks v vote.Notar (omega arith) refl) (other_blocks v vote.NotarFallback (omega arith) refl)
      (other_vote v vote.Skip 0 refl) (other_vote v vote.SkipFallback 0 refl) (this_vote v vote.Final refl refl)
  listed_cell s' n' vote.Other b =
      let v = vote_at s' n' vote.Other b in
      cell_split v ∙ fifth_of (other_blocks v vote.Notar (omega arith) refl) (other_blocks v vote.NotarFallback (omega arith) refl)
      (other_vote v vote.Skip 0 refl) (other_vote v vote.SkipFallback 0 refl)
      (other_vote v vote.Final 0 refl ∙ sym (none_told (eqb n' n) (eqb s' s) c d t b))

-- ---- two ledgers

-- Of all numbers below a bound, one.
some_one : (k x : ℕ) (g : ℕ → Bool) → some_to k (λ i. eqb x i && g i) ≡ (ltb x k && g x)
some_one k x g =
    same_test (some_to k (λ i. eqb x i && g i)) (ltb x k && g x)
    (λ e.
    let f = some_find k (λ i. eqb x i && g i) e in
    let h = and_both (eqb x f.0) (g f.0) f.2 in
    let q = eqb-true x f.0 h.0 in
    both_and (ltb x k) (g x) (lt-ltb x k (omega (arith, f.1))) (ap g q ∙ h.1))
    (λ e.
    let h = and_both (ltb x k) (g x) e in
    some_at k x (λ i. eqb x i && g i) (ltb-true x k h.0) (both_and (eqb x x) (g x) (eq-eqb x x refl) h.1))

-- Of all slots, one.
some_slot : (x : ℕ) (g : ℕ → Bool) → some_to last_slot (λ i. eqb x (suc i) && g (suc i)) ≡ (slot_ok x && g x)
unfolding slot_ok
some_slot x g =
    same_test (some_to last_slot (λ i. eqb x (suc i) && g (suc i))) (slot_ok x && g x)
    (λ e.
    let f = some_find last_slot (λ i. eqb x (suc i) && g (suc i)) e in
    let h = and_both (eqb x (suc f.0)) (g (suc f.0)) f.2 in
    let q = eqb-true x (suc f.0) h.0 in
    both_and (slot_ok x) (g x) (both_and (leb 1 x) (leb x last_slot) (le-leb 1 x (omega arith)) (le-leb x last_slot (omega (arith, f.1)))) (ap g q ∙ h.1))
    (λ e.
    let h = and_both (slot_ok x) (g x) e in
    let j = and_both (leb 1 x) (leb x last_slot) h.0 in
    let a = leb-true 1 x j.0 in
    let b = leb-true x last_slot j.1 in
    below x (λ y z. let z' : x ≡ suc y = z in
    some_at last_slot y (λ i. eqb x (suc i) && g (suc i)) (omega arith) (both_and (eqb x (suc y)) (g (suc y)) (eq-eqb x (suc y) z') (ap g (sym z') ∙ h.1))) a)
  where
    below : {X : Type 0} (x : ℕ) → ((y : ℕ) → x ≡ suc y → X) → 1 ≤ x → X
    below zero f h = absurd (omega arith)
    below (suc y) f h = f y refl

some_same : (n : ℕ) (f g : ℕ → Bool) → ((i : ℕ) → f i ≡ g i) → some_to n f ≡ some_to n g
unfolding some_to
some_same zero f g h = refl
some_same (suc n) f g h = ap₂ (λ (x y : Bool). x || y) (some_same n f g h) (h n)

-- Both sides ask the same of a vote before they look for it.
alone_inside : (t : Side) (a b c p q : Bool) → has_alone t (a && (b && (c && p))) (a && (b && (c && q))) ≡ (a && (b && (c && has_alone t p q)))
alone_inside t false b c p q = alone_none t false
alone_inside t true false c p q = alone_none t false
alone_inside t true true false p q = alone_none t false
alone_inside t true true true p q = refl

module _ (l m : Ledger) (t : Side) (s' n' : ℕ) (k : VoteKind) (b : ℕ) where
  abbrev apart : ℕ → ℕ → Bool
  apart s n = not (misfits k b) && has_alone t (keeps (cell_at l s n) k b) (keeps (cell_at m s n) k b)

  listed_slot : (s : ℕ) → listed (vote_at s' n' k b) t (slot_lines l m s) ≡ (eqb s' s && (ltb n' l.count && apart s n'))
  unfolding slot_lines
  listed_slot s =
      listed_to (vote_at s' n' k b) t l.count (node_lines l m s)
      ∙ some_same l.count (λ i. listed (vote_at s' n' k b) t (node_lines l m s i)) (λ i. eqb n' i && (eqb s' s && apart s i))
      (λ i. listed_cell s i (cell_at l s i) (cell_at m s i) t s' n' k b)
      ∙ some_one l.count n' (λ i. eqb s' s && apart s i)
      ∙ and_swap (ltb n' l.count) (eqb s' s) (apart s n')

  listed_votes : listed (vote_at s' n' k b) t (vote_lines l m) ≡ (slot_ok s' && (ltb n' l.count && apart s' n'))
  unfolding vote_lines
  listed_votes =
      listed_to (vote_at s' n' k b) t last_slot (λ i. slot_lines l m (suc i))
      ∙ some_same last_slot (λ i. listed (vote_at s' n' k b) t (slot_lines l m (suc i))) (λ i. eqb s' (suc i) && (ltb n' l.count && apart (suc i) n'))
      (λ i. listed_slot (suc i))
      ∙ some_slot s' (λ s. ltb n' l.count && apart s n')

-- "list every stored vote that is in one and not in the other, with which side has it".
pub lines_exactly : ExactlyTheOthers
unfolding differences stores same_tables
lines_exactly l m e v t =
    let s = v.slot.0 in
    let n = v.node.0 in
    let q : l.count ≡ m.count = eqb-true l.count m.count (and_both (eqb l.count m.count) _ e).0 in
    ap (listed v t) (given_on (same_tables l m) (tables_line ∷ []) (λ _. vote_lines l m) e)
    ∙ listed_votes l m t s n v.kind v.block
    ∙ sym (alone_inside t (slot_ok s) (ltb n l.count) (not (misfits v.kind v.block)) (keeps (cell_at l s n) v.kind v.block) (keeps (cell_at m s n) v.kind v.block))
    ∙ ap (λ (z : ℕ). has_alone t (stores l v) (slot_ok s && (ltb n z && (not (misfits v.kind v.block) && keeps (cell_at m s n) v.kind v.block)))) q
