-- Laws of blocks by weight: the lower of a heavy block and the best so far; blocks that are not heavy, one node further.
-- Assumes nothing.
use mathlib.Core.Path.{◌≡◌, sym, ap, ◌∙◌}
use mathlib.Core.Bool.{Bool, true, false, not, ◌&&◌, ◌||◌}
use Prim.Native.Nat.{ℕ, ◌+◌, ◌-◌, ◌*◌, ◌≤◌, ◌<◌}
use native.Mathlib.Omega.{arith}
use lib.Dec.{eqb, leb}
use borrow.Author.Tests.{not-true, lt-ltb, le-ltb, le-leb, leb-true, eqb-false, ne_eqb}
use Rattle.rulebook.specs.declared.Cell.{Cell}
use Rattle.rulebook.specs.Tools.{part, lower}
use Rattle.rulebook.specs.Ledger.{Ledger, none, cell_at}
use Rattle.rule_laws.proofs.ToolLaws.{and_both, both_and, true_not_false, sum_none, sum_more}
use Rattle.pool.specs.Weighing.{counted_before}
use Rattle.rule_laws.proofs.LowestLaws.{lower_off, lower_cases}
use Rattle.shown_heavy.specs.Heavy.{is_heavy, heavy_past, light_name, light_names, light_to}
use Rattle.shown.proofs.Laws.{one_most, sum_most}
use Rattle.shown_blocks.proofs.Laws.{after_none}
use Rattle.rulebook.specs.declared.Who.TheVariants as who

-- ---- the lower of a heavy block and the best so far

-- 0 comes after no block, heavy or not
pub heavy_none : (l : Ledger) (s after : ℕ) → heavy_past l s after 0 ≡ false
unfolding heavy_past
heavy_none l s after = ap (λ (t : Bool). t && is_heavy l s 0) (after_none after)

pub lower_kept : (t : Bool) (b m : ℕ) → (not (eqb m 0) && leb m b) ≡ true → m ≡ lower t b m
lower_kept false b m h = sym (lower_off b m)
lower_kept true b m h =
    let e = and_both (not (eqb m 0)) (leb m b) h in
    let f = eqb-false m 0 (not-true (eqb m 0) e.0) in
    let g = leb-true m b e.1 in
    lower_cases b m (λ z k. absurd (f z)) (λ z i k. omega arith) (λ z i k. sym k)

pub lower_taken : (t : Bool) (b m : ℕ) → t ≡ true → (not (eqb m 0) && leb m b) ≡ false → b ≡ lower t b m
lower_taken t b m e h =
    sym (ap (λ (x : Bool). lower x b m) e
    ∙ lower_cases b m (λ z k. k) (λ z i k. k)
    (λ z i k. true_not_false (not (eqb m 0) && leb m b) (both_and (not (eqb m 0)) (leb m b) (ap not (ne_eqb m 0 (λ y. omega arith))) (le-leb m b (omega arith))) h))

module _ (l : Ledger) (s after b best : ℕ) where
  -- not after the other, or not heavy
  pub heavy_before : b ≤ after → best ≡ lower (heavy_past l s after b) b best
  unfolding heavy_past
  heavy_before h =
      sym (ap (λ (t : Bool). lower t b best) (ap (λ (t : Bool). t && is_heavy l s b) (le-ltb after b h)) ∙ lower_off b best)

  heavy_is : after < b → (t : Bool) → t ≡ is_heavy l s b → (k : Bool) → t ≡ k → heavy_past l s after b ≡ k
  unfolding heavy_past
  heavy_is h t e k q = ap (λ (x : Bool). x && is_heavy l s b) (lt-ltb after b h) ∙ sym e ∙ q

  pub heavy_passed : after < b → (t : Bool) → t ≡ is_heavy l s b → t ≡ false → best ≡ lower (heavy_past l s after b) b best
  heavy_passed h t e q = sym (ap (λ (x : Bool). lower x b best) (heavy_is h t e false q) ∙ lower_off b best)

  pub heavy_found : after < b → (t : Bool) → t ≡ is_heavy l s b → t ≡ true → (not (eqb best 0) && leb best b) ≡ false
      → b ≡ lower (heavy_past l s after b) b best
  heavy_found h t e q d = lower_taken (heavy_past l s after b) b best (heavy_is h t e true q) d

-- ---- blocks that are not heavy

module _ (l : Ledger) (s n looked b : ℕ) where
  abbrev seen : Bool
  seen = counted_before l s n (who.NotarOrFallback b)

  abbrev light_test : Bool → Bool → Bool → ℕ
  light_test x y z = part (not x && (not y && not z)) 1

  pub light_skipped : (none b || eqb b looked) ≡ true → 0 ≡ light_name l s n looked b
  unfolding light_name part
  light_skipped e = sym (ap (λ (x : Bool). light_test x seen (is_heavy l s b)) e)

  pub light_seen : (none b || eqb b looked) ≡ false → (t : Bool) → t ≡ seen → t ≡ true → 0 ≡ light_name l s n looked b
  unfolding light_name part
  light_seen d t e q =
      sym (ap (λ (x : Bool). light_test x seen (is_heavy l s b)) d ∙ ap (λ (x : Bool). light_test false x (is_heavy l s b)) (sym e ∙ q))

  pub light_new : (none b || eqb b looked) ≡ false → (t : Bool) → t ≡ seen → t ≡ false → (h : Bool) → h ≡ is_heavy l s b
      → (r : ℕ) → r ≡ part (not h) 1 → r ≡ light_name l s n looked b
  unfolding light_name
  light_new d t e q h f r g =
      g ∙ ap (λ (x : Bool). part (not x) 1) f
      ∙ sym (ap (λ (x : Bool). light_test x seen (is_heavy l s b)) d ∙ ap (λ (x : Bool). light_test false x (is_heavy l s b)) (sym e ∙ q))

  pub light_one : light_name l s n looked b ≤ 1
  unfolding light_name
  light_one = one_most (not (none b || eqb b looked) && (not seen && not (is_heavy l s b)))

pub light_few : (l : Ledger) (s n : ℕ) (c : Cell) → light_names l s n c ≤ 4
unfolding light_names
light_few l s n c =
    omega (arith, light_one l s n 0 c.notar, light_one l s n c.notar c.fallback1, light_one l s n c.notar c.fallback2, light_one l s n c.notar c.fallback3)

module _ (l : Ledger) (s : ℕ) where
  pub light_start : 0 ≡ light_to l s 0
  light_start = sym (sum_none (λ i. light_names l s i (cell_at l s i)))

  pub light_more : (n : ℕ) (c : Cell) (sum r : ℕ) → c ≡ cell_at l s n → sum ≡ light_to l s n → r ≡ light_names l s n c → sum + r ≡ light_to l s (n + 1)
  light_more n c sum r e h q =
      (λ i. h i + (q ∙ ap (light_names l s n) e) i) ∙ sym (sum_more n (λ i. light_names l s i (cell_at l s i)))

  pub light_room : (n : ℕ) → light_to l s n ≤ n * 4
  light_room n = sum_most n 4 (λ i. light_names l s i (cell_at l s i)) (λ i. light_few l s i (cell_at l s i))
