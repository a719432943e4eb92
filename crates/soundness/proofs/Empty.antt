-- Where the first place for a block is empty, a slot's blocks fit just where all its places are blank. Assumes nothing.
use mathlib.Core.Path.{◌≡◌, refl, sym, ap, ◌∙◌}
use mathlib.Core.Bool.{Bool, true, false, not, ◌&&◌, ◌||◌}
use mathlib.Core.List.{List, [], ◌∷◌}
use Prim.Native.Nat.{ℕ}
use lib.ListN.{get_or}
use borrow.Author.Tests.{eq-eqb, eqb-true}
use Rattle.rulebook.specs.declared.Block.{Block}
use Rattle.rulebook.specs.Ledger.{Ledger, none, no_block, all_blocks, is_free}
use Rattle.rulebook.specs.WellFormed.{in_order, kept_fits, blocks_apart, blocks_fit, block_blank}
use Rattle.rule_laws.proofs.ToolLaws.{given_off, by_test}

and_more : (a b c : Bool) → ((a && b) && c) ≡ (a && (b && c))
and_more true b c = refl
and_more false b c = refl

and_none : (a : Bool) → (a && false) ≡ false
and_none true = refl
and_none false = refl

or_end : (a : Bool) → (a || false) ≡ a
or_end true = refl
or_end false = refl

-- A test that is asked twice.
and_twice : (a b c d : Bool) → ((a && b) && (c && (c && d))) ≡ (a && (b && (c && d)))
and_twice false b c d = refl
and_twice true false c d = refl
and_twice true true false d = refl
and_twice true true true d = refl

-- Behind an empty place only an empty one is in order.
behind_empty : (y : ℕ) → in_order 0 y ≡ none y
unfolding in_order
behind_empty y = or_end (none y)

pub behind_none : (x y : ℕ) → x ≡ 0 → in_order x y ≡ true → y ≡ 0
behind_none x y e t = eqb-true y 0 (sym (ap (λ (z : ℕ). in_order z y) e ∙ behind_empty y) ∙ t)

module _ (l : Ledger) (s : ℕ) where
  empty_fits : (k : Block) → is_free k ≡ true → kept_fits l s k ≡ block_blank k
  unfolding kept_fits block_blank
  empty_fits k e =
      given_off (not (is_free k)) (none k.parentslot.0 && none k.parent) _ (ap not e)
      ∙ (λ i. sym e i && (none k.parentslot.0 && none k.parent))

  not_blank : (k : Block) → is_free k ≡ false → block_blank k ≡ false
  unfolding block_blank
  not_blank k e = λ i. e i && (none k.parentslot.0 && none k.parent)

  abbrev in_row : ℕ → List Block → Bool
  in_row x ks = all_blocks (λ k. in_order x k.number) ks && blocks_apart ks

  behind_blank : (ks : List Block) → (all_blocks (kept_fits l s) ks && in_row 0 ks) ≡ all_blocks block_blank ks
  unfolding all_blocks blocks_apart
  behind_blank [] = refl
  behind_blank (k ∷ ks) =
      by_test (is_free k)
      (λ e.
      (λ i. (empty_fits k e i && all_blocks (kept_fits l s) ks) && (((behind_empty k.number ∙ e) i && all_blocks (λ j. in_order 0 j.number) ks) && in_row (eqb-true k.number 0 e i) ks))
      ∙ and_twice (block_blank k) (all_blocks (kept_fits l s) ks) (all_blocks (λ j. in_order 0 j.number) ks) (blocks_apart ks)
      ∙ ap (λ (b : Bool). block_blank k && b) (behind_blank ks))
      (λ e.
      (λ i. (kept_fits l s k && all_blocks (kept_fits l s) ks) && (((behind_empty k.number ∙ e) i && all_blocks (λ j. in_order 0 j.number) ks) && in_row k.number ks))
      ∙ and_none (kept_fits l s k && all_blocks (kept_fits l s) ks)
      ∙ (λ i. sym (not_blank k e) i && all_blocks block_blank ks))

  pub blank_fits : (bs : List Block) (first : Block) → first ≡ get_or bs 0 no_block → first.number ≡ 0 → all_blocks block_blank bs ≡ blocks_fit l s bs
  unfolding blocks_fit all_blocks blocks_apart
  blank_fits [] first e z = refl
  blank_fits (b ∷ ks) first e z =
      let n : b.number ≡ 0 = ap (λ (x : Block). x.number) (sym e) ∙ z in
      sym (
      (λ i. (empty_fits b (eq-eqb b.number 0 n) i && all_blocks (kept_fits l s) ks) && in_row (n i) ks)
      ∙ and_more (block_blank b) (all_blocks (kept_fits l s) ks) (in_row 0 ks)
      ∙ ap (λ (c : Bool). block_blank b && c) (behind_blank ks)
      )
