-- Heavy names by few counters (Misra and Gries): of k counters each has a name and a weight; 0 names nothing. What a name weighs so
-- far is at most its counter and what was taken off every counter, which is at most one part in k + 1 of all.
use Rattle.std.specs.Prelude.{◌≡◌, Bool, List, Option, MatchOption, ℕ, ◌+◌, ◌*◌, ◌≤◌, ◌<◌, ◌^◌, get_or, eqb}
use Rattle.counters.specs.declared.Counter.{Counter}
use Rattle.rulebook.specs.Tools.{part, sum_to, some_to}

-- How many counters there are: enough for a fifth of the notar stake, and for three fifths where each node names four blocks.
abbrev pub counters : ℕ
counters = 6

-- The word of a list at a place.
abbrev pub word : List ℕ → ℕ → ℕ
word xs i = get_or xs i 0

-- The name and the weight of a counter in a list.
abbrev pub empty : Counter
empty = record { name = 0; weight = 0 }

abbrev pub name_at : List Counter → ℕ → ℕ
name_at cs i = (get_or cs i empty).name

abbrev pub weight_at : List Counter → ℕ → ℕ
weight_at cs i = (get_or cs i empty).weight

-- The weights f of names, with w more for x.
abbrev pub plus : (ℕ → ℕ) → ℕ → ℕ → ℕ → ℕ
plus f x w m = f m + part (eqb x m) w

-- No counter has the name x.
abbrev pub Unnamed : ℕ → (ℕ → ℕ) → ℕ → Type 0
Unnamed k ns x = (i : ℕ) → i < k → ns i ≡ x → ⊥

-- Some counter has the name m.
unfoldable pub among : ℕ → (ℕ → ℕ) → ℕ → Bool
among k ns m = some_to k (λ i. eqb (ns i) m)

-- k counters, names ns and weights ws, where a name m has weighed f m at least so far, and all names `all` at most.
pub record Counting (k : ℕ) (f : ℕ → ℕ) (all : ℕ) (ns ws : ℕ → ℕ) : Type 0 where
  -- what was taken off every counter
  pub off : ℕ
  -- no name has two counters
  pub apart : (i j : ℕ) → i < k → j < k → 1 ≤ ns i → ns i ≡ ns j → i ≡ j
  pub own : (i : ℕ) → i < k → 1 ≤ ns i → f (ns i) ≤ ws i + off
  pub other : (m : ℕ) → 1 ≤ m → Unnamed k ns m → f m ≤ off
  pub within : sum_to k ws + (k * off + off) ≤ all

-- The counters ms and vs are what ns and ws become where x weighs w more.
abbrev pub Adding : ℕ → ℕ → ℕ → (ℕ → ℕ) → (ℕ → ℕ) → (ℕ → ℕ) → (ℕ → ℕ) → Type 0
Adding k x w ns ws ms vs = (f : ℕ → ℕ) (all : ℕ) → Counting k f all ns ws → Counting k (plus f x w) (all + w) ms vs

-- ---- the code's counters

-- Their sum with w more fits a word.
abbrev pub Room : List Counter → ℕ → Type 0
Room cs w = sum_to counters (weight_at cs) + w < 2 ^ 64

-- Where the name x stands among the counters.
abbrev pub Place : List Counter → ℕ → Option ℕ → Type 0
Place cs x r = MatchOption r (Unnamed counters (name_at cs) x) (λ p. (p < counters) × (name_at cs p ≡ x))

-- The counter r is a least one.
pub record Least (cs : List Counter) (r : ℕ) : Type 0 where
  pub few : r < counters
  pub least : (i : ℕ) → i < counters → weight_at cs r ≤ weight_at cs i

-- Each counter has e.
abbrev pub Lowerable : List Counter → ℕ → Type 0
Lowerable cs e = (i : ℕ) → i < counters → e ≤ weight_at cs i

-- e was taken off every counter.
pub record Lowered (cs ds : List Counter) (e : ℕ) : Type 0 where
  pub names : (i : ℕ) → i < counters → name_at ds i ≡ name_at cs i
  pub each : (i : ℕ) → i < counters → weight_at ds i + e ≡ weight_at cs i

-- The counters after x weighed w more.
pub record Added (x w : ℕ) (cs ds : List Counter) : Type 0 where
  pub sum : sum_to counters (weight_at ds) ≤ sum_to counters (weight_at cs) + w
  pub adding : Adding counters x w (name_at cs) (weight_at cs) (name_at ds) (weight_at ds)
