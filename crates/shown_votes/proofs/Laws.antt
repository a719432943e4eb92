-- Laws of stored votes: the first node with one; how many there are, one node further.
-- Assumes nothing.
use mathlib.Core.Path.{◌≡◌, sym, ap, ◌∙◌}
use mathlib.Core.Bool.{Bool, true, false, not}
use Prim.Native.Nat.{ℕ, suc, ◌+◌, ◌-◌, ◌*◌, ◌≤◌, ◌<◌, ◌^◌, max}
use native.Mathlib.Omega.{arith}
use lib.Dec.{leb}
use borrow.Author.Tests.{leb-true, leb-false}
use Rattle.rulebook.specs.declared.Cell.{Cell}
use Rattle.rulebook.specs.Tools.{part, sum_to}
use Rattle.rulebook.specs.Weights.{weight, stake_in}
use Rattle.rulebook.specs.Ledger.{Ledger, cell_at}
use Rattle.rulebook.specs.WellFormed.{cell_blank}
use Rattle.rule_laws.proofs.ToolLaws.{by_test, choose_on, choose_off, sum_none, sum_more}
use Rattle.rule_laws.proofs.WeightLaws.{weight_room}
use Rattle.record.specs.Tabled.{Tabled}
use Rattle.shown.specs.Shown.{voted}
use Rattle.shown_votes.specs.Votes.{first_from, votes_in, stored_in}
use Rattle.shown.proofs.Laws.{one_most, flag_most, sum_most}

-- ---- the first node with a vote

module _ (f : ℕ → Bool) (nodes n : ℕ) where
  pub first_here : n < nodes → f n ≡ true → n ≡ first_from (nodes - n) n f
  unfolding first_from
  first_here h e = let d : nodes - n ≡ suc (nodes - (n + 1)) = omega arith in rw d (sym (choose_on (f n) n (first_from (nodes - (n + 1)) (n + 1) f) e))

  pub first_further : n < nodes → f n ≡ false → first_from (nodes - n) n f ≡ first_from (nodes - (n + 1)) (n + 1) f
  unfolding first_from
  first_further h e = let d : nodes - n ≡ suc (nodes - (n + 1)) = omega arith in rw d (choose_off (f n) n (first_from (nodes - (n + 1)) (n + 1) f) e)

  pub first_none : nodes ≤ n → n ≡ first_from (nodes - n) n f
  unfolding first_from
  first_none h = let d : nodes - n ≡ 0 = omega arith in rw d

-- The number after those from one on, up to a bound that may lie before it.
pub last_number : (from nodes n r : ℕ) → r ≡ max from nodes → (nodes ≤ from → n ≡ from) → nodes ≤ n → (from ≤ nodes → n ≤ nodes) → r ≡ n
last_number from nodes n r e short low high =
    by_test (leb nodes from)
    (λ t. let h = leb-true nodes from t in let k = short h in omega arith)
    (λ t. let h = leb-false nodes from t in let k = high (omega arith) in omega arith)

-- ---- how many votes are stored

pub votes_few : (c : Cell) → votes_in c ≤ 7
unfolding votes_in
votes_few c =
    omega (arith, flag_most c.notar, flag_most c.skip, flag_most c.fallback1, flag_most c.fallback2, flag_most c.fallback3, flag_most c.skipfallback, flag_most c.finalvote)

module _ (l : Ledger) (s : ℕ) where
  -- of the first n nodes: the votes, the nodes that have some, and their weight
  abbrev pub cast_to : ℕ → ℕ
  cast_to n = sum_to n (λ i. votes_in (cell_at l s i))

  abbrev pub voters_to : ℕ → ℕ
  voters_to n = sum_to n (λ i. part (voted l s i) 1)

  abbrev pub weight_to : ℕ → ℕ
  weight_to n = weight l.stakes n (voted l s)

  pub cast_room : (n : ℕ) → cast_to n ≤ n * 7
  cast_room n = sum_most n 7 (λ i. votes_in (cell_at l s i)) (λ i. votes_few (cell_at l s i))

  pub voters_room : (n : ℕ) → voters_to n ≤ n * 1
  voters_room n = sum_most n 1 (λ i. part (voted l s i) 1) (λ i. one_most (voted l s i))

  pub cast_more : (n : ℕ) (c : Cell) (sum r : ℕ) → c ≡ cell_at l s n → sum ≡ cast_to n → r ≡ votes_in c → sum + r ≡ cast_to (n + 1)
  cast_more n c sum r e h q = (λ i. h i + (q ∙ ap votes_in e) i) ∙ sym (sum_more n (λ i. votes_in (cell_at l s i)))

  -- whether the node has a vote, by its cell
  pub voted_is : (n : ℕ) (c : Cell) (blank : Bool) → c ≡ cell_at l s n → blank ≡ cell_blank c → not blank ≡ voted l s n
  voted_is n c blank e q = ap not (q ∙ ap cell_blank e)

  pub voters_more : (n : ℕ) (c : Cell) (blank : Bool) (sum r : ℕ) → c ≡ cell_at l s n → blank ≡ cell_blank c → sum ≡ voters_to n
      → r ≡ part (not blank) 1 → sum + r ≡ voters_to (n + 1)
  voters_more n c blank sum r e q h d =
      (λ i. h i + (d ∙ ap (λ (t : Bool). part t 1) (voted_is n c blank e q)) i) ∙ sym (sum_more n (λ i. part (voted l s i) 1))

  pub weight_further : (n : ℕ) (c : Cell) (blank : Bool) (sum r w : ℕ) → c ≡ cell_at l s n → blank ≡ cell_blank c → sum ≡ weight_to n
      → w ≡ stake_in l.stakes n → r ≡ part (not blank) w → sum + r ≡ weight_to (n + 1)
  unfolding weight
  weight_further n c blank sum r w e q h k d =
      (λ i. h i + (d ∙ (λ j. part (voted_is n c blank e q j) (k j))) i) ∙ sym (sum_more n (λ i. part (voted l s i) (stake_in l.stakes i)))

  pub stored_start : (0 ≡ cast_to 0) × (0 ≡ voters_to 0) × (0 ≡ weight_to 0)
  unfolding weight
  stored_start =
      (sym (sum_none (λ i. votes_in (cell_at l s i))), sym (sum_none (λ i. part (voted l s i) 1)), sym (sum_none (λ i. part (voted l s i) (stake_in l.stakes i))))

  -- with the next node's stake, within the total
  pub weight_fits : Tabled l → (n : ℕ) → n < l.count → weight_to n + stake_in l.stakes n ≤ 2 ^ 48
  weight_fits k n h = omega (arith, weight_room l.stakes l.count n (voted l s) h, k.sum, k.light)

  pub stored_done : (n v m w : ℕ) → n ≡ l.count → v ≡ cast_to n → m ≡ voters_to n → w ≡ weight_to n
      → record { votes = v; nodes = m; weight = record { 0 = w } } ≡ stored_in l s
  unfolding stored_in
  stored_done n v m w e a b d i =
      record { votes = (a ∙ ap cast_to e) i; nodes = (b ∙ ap voters_to e) i; weight = record { 0 = (d ∙ ap weight_to e) i } }
