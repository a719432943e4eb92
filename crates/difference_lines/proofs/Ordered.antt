-- The lines ascend by slot, node, kind and block, so that no vote has two. Assumes nothing.
use mathlib.Core.Path.{◌≡◌, refl, sym, ap, ◌∙◌}
use mathlib.Core.Bool.{Bool, true, false, not, ◌&&◌, ◌||◌}
use mathlib.Core.List.{List, [], ◌∷◌, ◌++◌}
use Prim.Native.Nat.{ℕ, zero, suc, ◌≤◌, ◌<◌}
use native.Mathlib.Omega.{arith}
use lib.Dec.{eqb, ltb}
use borrow.Author.Tests.{eq-eqb, lt-ltb, ltb-true, eqb-false}
use Rattle.rulebook.specs.declared.Cell.{Cell}
use Rattle.rulebook.specs.declared.Vote.{Vote}
use Rattle.rulebook.specs.declared.VoteKind.{VoteKind}
use Rattle.rulebook.specs.declared.VoteKind.TheVariants as vote
use Rattle.rulebook.specs.Tools.{lowest}
use Rattle.rulebook.specs.Weights.{last_slot}
use Rattle.rulebook.specs.PaperNumbers.{vote_number}
use Rattle.rulebook.specs.Ledger.{Ledger, none, cell_at}
use Rattle.rule_laws.proofs.ToolLaws.{given_keeps, both_and, and_both, or_left, or_right}
use Rattle.rule_laws.proofs.LowestLaws.{low_find}
use Rattle.difference_lines.specs.Lines.{Line, vote_at, keeps, line_of, vote_line, blocks_of, most_named, ascending, lines_over, block_lines, cell_lines, lines_to, node_lines, slot_lines, vote_lines, same_tables, tables_line, differences}
use Rattle.difference_lines.specs.Promises.{comes_before, before_all, ascends, InOrder}

-- ---- a fact of each line

abbrev Each : (Line → Type 0) → List Line → Type 0
Each P [] = Unit {0}
Each P (x ∷ xs) = P x × Each P xs

each_append : (P : Line → Type 0) (xs ys : List Line) → Each P xs → Each P ys → Each P (xs ++ ys)
each_append P [] ys a b = b
each_append P (x ∷ xs) ys a b = (a.0, each_append P xs ys a.1 b)

each_also : (P Q : Line → Type 0) (xs : List Line) → ((x : Line) → P x → Q x) → Each P xs → Each Q xs
each_also P Q [] f a = tt
each_also P Q (x ∷ xs) f a = (f x a.0, each_also P Q xs f a.1)

-- ---- one run of lines before another

before_each : (Q : Line → Type 0) (x : Line) (ys : List Line) → ((y : Line) → Q y → comes_before x y ≡ true) → Each Q ys → before_all x ys ≡ true
unfolding before_all
before_each Q x [] f a = refl
before_each Q x (y ∷ ys) f a = both_and (comes_before x y) (before_all x ys) (f y a.0) (before_each Q x ys f a.1)

before_append : (x : Line) (xs ys : List Line) → before_all x xs ≡ true → before_all x ys ≡ true → before_all x (xs ++ ys) ≡ true
unfolding before_all
before_append x [] ys a b = b
before_append x (z ∷ xs) ys a b = let k = and_both (comes_before x z) (before_all x xs) a in both_and (comes_before x z) (before_all x (xs ++ ys)) k.0 (before_append x xs ys k.1 b)

ascends_append : (P Q : Line → Type 0) (xs ys : List Line) → ((x y : Line) → P x → Q y → comes_before x y ≡ true) → Each P xs → Each Q ys
    → ascends xs ≡ true → ascends ys ≡ true → ascends (xs ++ ys) ≡ true
unfolding ascends
ascends_append P Q [] ys f a b c d = d
ascends_append P Q (x ∷ xs) ys f a b c d =
    let k = and_both (before_all x xs) (ascends xs) c in
    both_and (before_all x (xs ++ ys)) (ascends (xs ++ ys)) (before_append x xs ys k.0 (before_each Q x ys (λ y q. f x y a.0 q) b))
    (ascends_append P Q xs ys f a.1 b k.1 d)

-- ---- where a line stands

-- Slot s; slot s and node n; and kind k; and block b.
abbrev InSlot : ℕ → Line → Type 0
InSlot s x = x.vote.slot.0 ≡ s

abbrev AtNode : ℕ → ℕ → Line → Type 0
AtNode s n x = (x.vote.slot.0 ≡ s) × (x.vote.node.0 ≡ n)

pub record OfKind (s n k : ℕ) (x : Line) : Type 0 where
  pub slot : x.vote.slot.0 ≡ s
  pub node : x.vote.node.0 ≡ n
  pub kind : vote_number x.vote.kind ≡ k

by_slot : (x y : Line) → x.vote.slot.0 < y.vote.slot.0 → comes_before x y ≡ true
unfolding comes_before
by_slot x y h = or_left (ltb x.vote.slot.0 y.vote.slot.0) _ (lt-ltb x.vote.slot.0 y.vote.slot.0 h)

later : (a b : ℕ) (rest : Bool) → a ≡ b → rest ≡ true → (ltb a b || (eqb a b && rest)) ≡ true
later a b rest e r = or_right (ltb a b) (eqb a b && rest) (both_and (eqb a b) rest (eq-eqb a b e) r)

by_node : (x y : Line) → x.vote.slot.0 ≡ y.vote.slot.0 → x.vote.node.0 < y.vote.node.0 → comes_before x y ≡ true
unfolding comes_before
by_node x y e h =
    later x.vote.slot.0 y.vote.slot.0 _ e (or_left (ltb x.vote.node.0 y.vote.node.0) _ (lt-ltb x.vote.node.0 y.vote.node.0 h))

by_kind : (x y : Line) → x.vote.slot.0 ≡ y.vote.slot.0 → x.vote.node.0 ≡ y.vote.node.0 → vote_number x.vote.kind < vote_number y.vote.kind
    → comes_before x y ≡ true
unfolding comes_before
by_kind x y e f h =
    later x.vote.slot.0 y.vote.slot.0 _ e
    (later x.vote.node.0 y.vote.node.0 _ f
    (or_left (ltb (vote_number x.vote.kind) (vote_number y.vote.kind)) _ (lt-ltb (vote_number x.vote.kind) (vote_number y.vote.kind) h)))

by_block : (x y : Line) → x.vote.slot.0 ≡ y.vote.slot.0 → x.vote.node.0 ≡ y.vote.node.0 → vote_number x.vote.kind ≡ vote_number y.vote.kind
    → x.vote.block < y.vote.block → comes_before x y ≡ true
unfolding comes_before
by_block x y e f g h =
    later x.vote.slot.0 y.vote.slot.0 _ e
    (later x.vote.node.0 y.vote.node.0 _ f
    (later (vote_number x.vote.kind) (vote_number y.vote.kind) _ g (lt-ltb x.vote.block y.vote.block h)))

-- ---- the lines of a kind

one_each : (P : Line → Type 0) (v : Vote) (a b : Bool) → ((x : Line) → x.vote ≡ v → P x) → Each P (line_of v a b)
unfolding line_of
one_each P v true true f = tt
one_each P v true false f = (f _ refl, tt)
one_each P v false true f = (f _ refl, tt)
one_each P v false false f = tt

one_ascends : (v : Vote) (a b : Bool) → ascends (line_of v a b) ≡ true
unfolding line_of ascends before_all
one_ascends v true true = refl
one_ascends v true false = refl
one_ascends v false true = refl
one_ascends v false false = refl

module _ (s n : ℕ) (c d : Cell) (k : VoteKind) where
  abbrev Above : ℕ → Line → Type 0
  Above x y = OfKind s n (vote_number k) y × (x < y.vote.block)

  abbrev Exact : ℕ → Line → Type 0
  Exact b y = OfKind s n (vote_number k) y × (y.vote.block ≡ b)

  exact : (b : ℕ) (y : Line) → y.vote ≡ vote_at s n k b → Exact b y
  exact b y e =
      (record { slot = ap (λ (w : Vote). w.slot.0) e; node = ap (λ (w : Vote). w.node.0) e; kind = ap (λ (w : Vote). vote_number w.kind) e }, ap (λ (w : Vote). w.block) e)

  abbrev over : ℕ → ℕ → List ℕ → List Line
  over x f bs = lines_over (λ b. vote_line c d (vote_at s n k b)) (ascending bs x f)

  over_both : (bs : List ℕ) (x f : ℕ) → Each (Above x) (over x f bs) × (ascends (over x f bs) ≡ true)
  unfolding ascending lines_over ascends
  over_both bs x zero = (tt, refl)
  over_both bs x (suc f) =
      let m = lowest (ltb x) bs in
      let g : ℕ → List Line = λ b. vote_line c d (vote_at s n k b) in
      given_keeps (λ (zs : List ℕ). Each (Above x) (lines_over g zs) × (ascends (lines_over g zs) ≡ true)) (not (none m)) [] (λ _. m ∷ ascending bs m f) (tt, refl)
      (λ e.
      let p : 1 ≤ m = omega (arith, eqb-false m 0 (not_on (none m) e)) in
      let h : x < m = ltb-true x m (low_find (ltb x) bs p).1 in
      let i = over_both bs m f in
      let here = one_each (Exact m) (vote_at s n k m) (keeps c k m) (keeps d k m) (exact m) in (
        each_append (Above x) (g m) (over m f bs) (each_also (Exact m) (Above x) (g m) (λ y q. (q.0, omega (arith, q.1))) here)
            (each_also (Above m) (Above x) (over m f bs) (λ y q. (q.0, omega (arith, q.1))) i.0),
        ascends_append (Exact m) (Above m) (g m) (over m f bs)
            (λ y z q r. by_block y z (q.0.slot ∙ sym r.0.slot) (q.0.node ∙ sym r.0.node) (q.0.kind ∙ sym r.0.kind) (omega (arith, q.1, r.1)))
            here i.0 (one_ascends (vote_at s n k m) (keeps c k m) (keeps d k m)) i.1,
      ))
    where
      not_on : (b : Bool) → not b ≡ true → b ≡ false
      not_on true e = sym e
      not_on false e = refl

  block_each : Each (OfKind s n (vote_number k)) (block_lines s n c d k)
  unfolding block_lines
  block_each = each_also (Above 0) (OfKind s n (vote_number k)) (over 0 most_named (blocks_of k c d)) (λ y q. q.0) (over_both (blocks_of k c d) 0 most_named).0

  block_ascends : ascends (block_lines s n c d k) ≡ true
  unfolding block_lines
  block_ascends = (over_both (blocks_of k c d) 0 most_named).1

  vote_each : Each (OfKind s n (vote_number k)) (vote_line c d (vote_at s n k 0))
  vote_each = one_each (OfKind s n (vote_number k)) (vote_at s n k 0) (keeps c k 0) (keeps d k 0) (λ x e. (exact 0 x e).0)

-- ---- one node in one slot

module _ (s n : ℕ) (c d : Cell) where
  -- From a kind on.
  abbrev From : ℕ → Line → Type 0
  From k x = (x.vote.slot.0 ≡ s) × (x.vote.node.0 ≡ n) × (k ≤ vote_number x.vote.kind)

  from_kind : (k : ℕ) (x : Line) → OfKind s n k x → From k x
  from_kind k x q = (q.slot, q.node, omega (arith, q.kind))

  kind_then : (k : ℕ) (xs ys : List Line) → Each (OfKind s n k) xs → ascends xs ≡ true → Each (From (suc k)) ys × (ascends ys ≡ true) → Each (From k) (xs ++ ys) × (ascends (xs ++ ys) ≡ true)
  kind_then k xs ys a b r = (
    each_append (From k) xs ys (each_also (OfKind s n k) (From k) xs (from_kind k) a) (each_also (From (suc k)) (From k) ys (λ x q. (q.0, q.1, omega (arith, q.2))) r.0),
    ascends_append (OfKind s n k) (From (suc k)) xs ys (λ x y q w. by_kind x y (q.slot ∙ sym w.0) (q.node ∙ sym w.1) (omega (arith, q.kind, w.2))) a r.0 b r.1,
  )

  cell_both : Each (From 1) (cell_lines s n c d) × (ascends (cell_lines s n c d) ≡ true)
  unfolding cell_lines vote_number
  cell_both =
      kind_then 1 (block_lines s n c d vote.Notar) _ (block_each s n c d vote.Notar) (block_ascends s n c d vote.Notar)
      (kind_then 2 (block_lines s n c d vote.NotarFallback) _ (block_each s n c d vote.NotarFallback) (block_ascends s n c d vote.NotarFallback)
      (kind_then 3 (vote_line c d (vote_at s n vote.Skip 0)) _ (vote_each s n c d vote.Skip) (one_ascends (vote_at s n vote.Skip 0) (keeps c vote.Skip 0) (keeps d vote.Skip 0))
      (kind_then 4 (vote_line c d (vote_at s n vote.SkipFallback 0)) _ (vote_each s n c d vote.SkipFallback) (one_ascends (vote_at s n vote.SkipFallback 0) (keeps c vote.SkipFallback 0) (keeps d vote.SkipFallback 0)) (
        each_also (OfKind s n 5) (From 5) (vote_line c d (vote_at s n vote.Final 0)) (from_kind 5) (vote_each s n c d vote.Final),
        one_ascends (vote_at s n vote.Final 0) (keeps c vote.Final 0) (keeps d vote.Final 0),
      ))))

-- ---- nodes and slots

module _ (l m : Ledger) where
  -- Slot s, and a node below n.
  abbrev Below : ℕ → ℕ → Line → Type 0
  Below s n x = (x.vote.slot.0 ≡ s) × (x.vote.node.0 < n)

  row_both : (s n : ℕ) → Each (Below s n) (lines_to n (node_lines l m s)) × (ascends (lines_to n (node_lines l m s)) ≡ true)
  unfolding lines_to ascends
  row_both s zero = (tt, refl)
  row_both s (suc n) =
      let xs = lines_to n (node_lines l m s) in
      let ys = node_lines l m s n in
      let i = row_both s n in
      let r = cell_both s n (cell_at l s n) (cell_at m s n) in (
        each_append (Below s (suc n)) xs ys (each_also (Below s n) (Below s (suc n)) xs (λ x q. (q.0, omega (arith, q.1))) i.0)
            (each_also (From s n (cell_at l s n) (cell_at m s n) 1) (Below s (suc n)) ys (λ x q. (q.0, omega (arith, q.1))) r.0),
        ascends_append (Below s n) (From s n (cell_at l s n) (cell_at m s n) 1) xs ys (λ x y q w. by_node x y (q.0 ∙ sym w.0) (omega (arith, q.1, w.1))) i.0 r.0 i.1 r.1,
      )

  slot_both : (s : ℕ) → Each (InSlot s) (slot_lines l m s) × (ascends (slot_lines l m s) ≡ true)
  unfolding slot_lines
  slot_both s = let r = row_both s l.count in (each_also (Below s l.count) (InSlot s) (lines_to l.count (node_lines l m s)) (λ x q. q.0) r.0, r.1)

  abbrev Upto : ℕ → Line → Type 0
  Upto n x = x.vote.slot.0 ≤ n

  slots_both : (n : ℕ) → Each (Upto n) (lines_to n (λ i. slot_lines l m (suc i))) × (ascends (lines_to n (λ i. slot_lines l m (suc i))) ≡ true)
  unfolding lines_to ascends
  slots_both zero = (tt, refl)
  slots_both (suc n) =
      let xs = lines_to n (λ i. slot_lines l m (suc i)) in
      let ys = slot_lines l m (suc n) in
      let i = slots_both n in
      let r = slot_both (suc n) in (
        each_append (Upto (suc n)) xs ys (each_also (Upto n) (Upto (suc n)) xs (λ x q. omega (arith, q)) i.0) (each_also (InSlot (suc n)) (Upto (suc n)) ys (λ x q. omega (arith, q)) r.0),
        ascends_append (Upto n) (InSlot (suc n)) xs ys (λ x y q w. by_slot x y (omega (arith, q, w))) i.0 r.0 i.1 r.1,
      )

-- "for each slot, node, kind and block, ascending in that order".
pub lines_ascend : InOrder
unfolding differences vote_lines ascends before_all
lines_ascend l m =
    given_keeps (λ (xs : List Line). ascends xs ≡ true) (same_tables l m) (tables_line ∷ []) (λ _. vote_lines l m) refl (λ e. (slots_both l m last_slot).1)
