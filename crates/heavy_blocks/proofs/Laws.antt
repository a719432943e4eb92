-- One pass over a slot's cells keeps the counters' invariant, and at its end every block that has the weights is among them.
-- Assumes nothing.
use mathlib.Core.Path.{◌≡◌, refl, ap, ◌∙◌}
use mathlib.Core.Bool.{Bool, true, false, ◌||◌}
use mathlib.Core.List.{List}
use Prim.Native.Nat.{ℕ, ◌+◌, ◌*◌, ◌≤◌, ◌<◌, ◌^◌}
use native.Mathlib.Omega.{arith}
use native.Mathlib.Nat.{mul-add, mul-le-mul_left}
use lib.ListN.{replicate, get_or-replicate}
use lib.Dec.{eqb}
use Rattle.rulebook.specs.declared.Cell.{Cell}
use Rattle.rulebook.specs.declared.Who.{Who}
use Rattle.rulebook.specs.declared.Who.TheVariants as who
use Rattle.rulebook.specs.Tools.{part, sum_to}
use Rattle.rulebook.specs.Weights.{total_to, stake_in}
use Rattle.rulebook.specs.Ledger.{Ledger, cell_at}
use Rattle.rulebook.specs.Pool.{counts, has_fallback}
use Rattle.rule_laws.proofs.ToolLaws.{sum_none, sum_more, sum_mono}
use Rattle.rule_laws.proofs.WeightLaws.{reaches_fact}
use Rattle.record.specs.Tabled.{Tabled}
use Rattle.pool.proofs.HeldLaws.{weigh_to, weigh_none, weigh_done, weigh_more}
use Rattle.counters.specs.declared.Counter.{Counter}
use Rattle.counters.specs.Counting.{counters, word, empty, name_at, weight_at, Counting, Added}
use Rattle.counters.proofs.Laws.{counting_none, counting_less, counting_names, counting_end}
use Rattle.heavy_blocks.specs.Heavy.{Heavy, Counted, Names}

-- ---- the total

total_none : (ws : List ℕ) → total_to ws 0 ≡ 0
unfolding total_to
total_none ws = sum_none (λ n. stake_in ws n)

total_more : (ws : List ℕ) (n : ℕ) → total_to ws (n + 1) ≡ total_to ws n + stake_in ws n
unfolding total_to
total_more ws n = sum_more n (λ n. stake_in ws n)

total_mono : (ws : List ℕ) (n m : ℕ) → n ≤ m → total_to ws n ≤ total_to ws m
unfolding total_to
total_mono ws n m h = sum_mono n m (λ n. stake_in ws n) h

-- ---- a cell

-- a notar vote is one name
pub counted_notar : {cs ds : List Counter} (c : Cell) (x w : ℕ) → x ≡ c.notar → Added x w cs ds → Counted (λ m. who.Notar m) 1 c w cs ds
unfolding counts
counted_notar c x w e a f all k =
    counting_less (λ m. f m + part (counts (who.Notar m) c) w) (all + 1 * w) (λ m s. omega (arith, ap (λ (y : ℕ). part (eqb y m) w) e)) (omega arith) (a.adding f all k)

part_or : (a b : Bool) (w : ℕ) → part (a || b) w ≤ part a w + part b w
unfolding part
part_or true b w = omega arith
part_or false b w = omega arith

part_four : (a b c d : Bool) (w : ℕ) → part (a || (b || (c || d))) w ≤ part a w + (part b w + (part c w + part d w))
part_four a b c d w = omega (arith, part_or a (b || (c || d)) w, part_or b (c || d) w, part_or c d w)

-- a cell's four names
pub counted_names : {cs cs₁ cs₂ cs₃ ds : List Counter} (c : Cell) (w : ℕ) → Added c.notar w cs cs₁ → Added c.fallback1 w cs₁ cs₂
    → Added c.fallback2 w cs₂ cs₃ → Added c.fallback3 w cs₃ ds → Counted (λ m. who.NotarOrFallback m) 4 c w cs ds
unfolding counts has_fallback
counted_names c w a₁ a₂ a₃ a₄ f all k =
    counting_less (λ m. f m + part (counts (who.NotarOrFallback m) c) w) (all + 4 * w)
    (λ m s. omega (arith, part_four (eqb c.notar m) (eqb c.fallback1 m) (eqb c.fallback2 m) (eqb c.fallback3 m) w))
    (omega arith)
    (a₄.adding _ _ (a₃.adding _ _ (a₂.adding _ _ (a₁.adding f all k))))

-- ---- the pass

module _ (l : Ledger) (s : ℕ) (by : ℕ → Who) (t : ℕ) where
  -- The counters after n nodes.
  pub record Hitting (cs : List Counter) (n : ℕ) : Type 0 where
    pub counting : Counting counters (λ m. weigh_to l s (by m) n) (t * total_to l.stakes n) (name_at cs) (weight_at cs)

  pub hitting_none : Hitting (replicate counters empty) 0
  hitting_none =
      record {
        counting = counting_less (λ m. weigh_to l s (by m) 0) (t * total_to l.stakes 0) (λ m h. omega (arith, weigh_none l s (by m))) (omega arith)
            (counting_none counters (λ m. 0) (name_at (replicate counters empty)) (weight_at (replicate counters empty))
            (λ i h. ap (λ (c : Counter). c.name) (get_or-replicate {A = Counter} counters i empty empty h))
            (λ i h. ap (λ (c : Counter). c.weight) (get_or-replicate {A = Counter} counters i empty empty h)) (λ m h. refl));
      }

  module _ {cs : List Counter} {n : ℕ} (k : Hitting cs n) (w : ℕ) (is : w ≡ stake_in l.stakes n) where
    pub hitting_more : {ds : List Counter} (c : Cell) → c ≡ cell_at l s n → Counted by t c w cs ds → Hitting ds (n + 1)
    hitting_more c e a =
        record {
          counting = counting_less (λ m. weigh_to l s (by m) (n + 1)) (t * total_to l.stakes (n + 1))
              (λ m h. omega (arith, weigh_more l s (by m) n c (counts (by m) c) (counts (by m) c) e refl refl, ap (part (counts (by m) c)) is))
              (omega (arith, ap (λ (x : ℕ). t * x) (total_more l.stakes n), mul-add t (total_to l.stakes n) (stake_in l.stakes n), ap (λ (x : ℕ). t * x) is))
              (a (λ m. weigh_to l s (by m) n) (t * total_to l.stakes n) k.counting);
        }

    -- what is counted fits
    pub hitting_room : Tabled l → n < l.count → t ≤ 4 → sum_to counters (weight_at cs) + t * w ≤ 2 ^ 50
    hitting_room table h few =
        let off = k.counting.off in
        omega (
          arith,
          k.counting.within,
          ap (λ (x : ℕ). t * x) is,
          mul-add t (total_to l.stakes n) (stake_in l.stakes n),
          ap (λ (x : ℕ). t * x) (total_more l.stakes n),
          mul-le-mul_left t (total_mono l.stakes (n + 1) l.count (omega arith)),
          ap (λ (x : ℕ). t * x) table.sum,
          mul-le-mul_left t table.light,
          few,
        )

  -- a block that has the weights is among the counters' names
  pub hitting_end : {cs : List Counter} {n : ℕ} (j : ℕ) → ((x y : ℕ) → 1 ≤ x → j * x ≤ 5 * y → t * x < 7 * y) → Tabled l → n ≡ l.count → Hitting cs n → {ns : List ℕ} → Names cs ns
      → Heavy by j l s ns
  hitting_end {n = n} j enough table all k {ns} names =
      record {
        long = names.long;
        has = λ m h r.
            let e : total_to l.stakes n ≡ l.total = ap (total_to l.stakes) all ∙ table.sum in
            counting_end (counting_names k.counting (word ns) names.each) m h
            (omega (
              arith,
              enough l.total _ table.some (reaches_fact j l.total _ r),
              weigh_done l s (by m) n all,
              ap (λ (x : ℕ). t * x) e,
            ));
      }
