-- Word by word, against what is left of the table and against each other. Assumes nothing.
use Rattle.std.proofs.Common.{◌≡◌, ℕ, ◌+◌, ◌-◌, ◌*◌, ◌^◌, Bool, true, false, ◌&&◌, ◌||◌, leb, List, length, get_or, sym, refl, ap, ◌∙◌, ap₂, arith}
use Rattle.rulebook.specs.Tools.{some_to}
use Rattle.rulebook.specs.Packets.{bit}
use Rattle.rule_laws.proofs.ToolLaws.{some_none, some_more}
use Rattle.rule_laws.proofs.WordLaws.{Words, beyond_words, both_more}
use Rattle.stakes.specs.Masks.{misplaced_in}
use Rattle.stakes.proofs.misplaced.Invariants.{past_to, both_to}
use Rattle.std.proofs.lemmas.Slice.Zip.{zip_turn, zip_end}
use Rattle.std.proofs.lemmas.List.{length_push}
use Rattle.std.specs.Iterator.Adapters.{zip_first, zip_second}
use Rattle.std.specs.Slice.Iter.{iter_rest}
use Rattle.stakes.proofs.misplaced.Goals as goal

-- Three tests of words before, and of one more.
shuffle : (p q r x y z : Bool) → (((p || q) || r) || ((x || y) || z)) ≡ (((p || x) || (q || y)) || (r || z))
shuffle true q r x y z = refl
shuffle false true r true y z = refl
shuffle false true r false y z = refl
shuffle false false true true y z = refl
shuffle false false true false true z = refl
shuffle false false true false false z = refl
shuffle false false false x y z = refl

-- One word more.
more : (a b : List ℕ) (count left i : ℕ) (bad : Bool) (x y z : Bool) → Words a → Words b → left ≡ count - 64 * i
    → bad ≡ ((past_to a count i || past_to b count i) || both_to a b i) → x ≡ leb (2 ^ left) (get_or a i 0) → y ≡ leb (2 ^ left) (get_or b i 0)
    → z ≡ some_to 64 (λ j. bit (get_or a i 0) j && bit (get_or b i 0) j)
    → (bad || ((x || y) || z)) ≡ ((past_to a count (i + 1) || past_to b count (i + 1)) || both_to a b (i + 1))
more a b count left i bad x y z h g l e ex ey ez =
    let p : past_to a count (i + 1) ≡ (past_to a count i || x) =
    some_more i (λ j. leb (2 ^ (count - 64 * j)) (get_or a j 0)) ∙ ap (λ (t : Bool). past_to a count i || t) (sym (ex ∙ ap (λ (n : ℕ). leb (2 ^ n) (get_or a i 0)) l)) in
    let q : past_to b count (i + 1) ≡ (past_to b count i || y) =
    some_more i (λ j. leb (2 ^ (count - 64 * j)) (get_or b j 0)) ∙ ap (λ (t : Bool). past_to b count i || t) (sym (ey ∙ ap (λ (n : ℕ). leb (2 ^ n) (get_or b i 0)) l)) in
    let r : both_to a b (i + 1) ≡ (both_to a b i || z) = both_more a b i h g ∙ ap (λ (t : Bool). both_to a b i || t) (sym ez) in
    ap (λ (t : Bool). t || ((x || y) || z)) e ∙ shuffle (past_to a count i) (past_to b count i) (both_to a b i) x y z
    ∙ sym (ap₂ (λ (s t : Bool). s || t) (ap₂ (λ (s t : Bool). s || t) p q) r)

pub loop-x-init : goal.loop-x-init
loop-x-init c =
    (omega arith, sym (ap₂ (λ (s t : Bool). s || t) (ap₂ (λ (s t : Bool). s || t) (some_none _) (some_none _)) (some_none _)))

pub loop-x-preserved : goal.loop-x-preserved
loop-x-preserved c =
    let l = c.loop-x in
    let s = c.args in
    let a = s.a.now in
    let b = s.b.now in
    let first : iter_rest (zip_first c.into_iter-x-iterator.result) ≡ a = cc in
    let second : iter_rest (zip_second c.into_iter-x-iterator.result) ≡ b = cc in
    let t =
    zip_turn a b l.yielded c.into_iter-x-iterator.result l.x-iterator c.next.new.self _ first second l.yielded_by _ c.in-Some.is c.next.ensures.steps in
    let n : ℕ = length l.yielded in
    rw (length_push l.yielded (c.in-Some.field-0-0, c.in-Some.field-0-1)) (
      omega (arith, c.saturating_sub-left.ensures, l.invariant.0),
      more a b s.count l.left n l.bad _ _ _ (λ n. (c.type_inv.a n).fits) (λ n. (c.type_inv.b n).fits) l.invariant.0 l.invariant.1
          (c.word_beyond-past_a.ensures ∙ ap (λ (x : ℕ). leb (2 ^ l.left) x) (t.2 0))
          (c.word_beyond-past_b.ensures ∙ ap (λ (x : ℕ). leb (2 ^ l.left) x) (t.3 0))
          (c.word_overlap-both.ensures ∙ ap₂ (λ (x y : ℕ). some_to 64 (λ j. bit x j && bit y j)) (t.2 0) (t.3 0)),
    )

pub returns : goal.returns
unfolding misplaced_in
returns c =
    let l = c.loop-x in
    let s = c.args in
    let a = s.a.now in
    let b = s.b.now in
    let first : iter_rest (zip_first c.into_iter-x-iterator.result) ≡ a = cc in
    let second : iter_rest (zip_second c.into_iter-x-iterator.result) ≡ b = cc in
    let n =
    zip_end a b l.yielded c.into_iter-x-iterator.result l.x-iterator c.next.new.self _ first second l.yielded_by c.in-None.is c.next.ensures.steps in
    let e : length l.yielded ≡ length a = omega (arith, n, c.requires.same) in
    let d : length l.yielded ≡ length b = omega (arith, n, c.requires.same) in
    l.invariant.1
    ∙ ap₂ (λ (p q : Bool). p || q)
    (ap₂ (λ (p q : Bool). p || q)
    (ap (past_to a s.count) e ∙ sym (beyond_words a s.count (λ n. (c.type_inv.a n).fits)))
    (ap (past_to b s.count) d ∙ sym (beyond_words b s.count (λ n. (c.type_inv.b n).fits))))
    (ap (both_to a b) e)
