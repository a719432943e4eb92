-- The counters over any list of names with weights, by steps: the method itself, whatever code does it.
use Rattle.std.specs.Prelude.{◌≡◌, List, [], ◌∷◌, ℕ, ◌+◌, ◌≤◌, ◌<◌, eqb}
use Rattle.rulebook.specs.Tools.{part}
use Rattle.counters.specs.Counting.{Unnamed}

-- A name with a weight.
pub record Named : Type 0 where
  pub name : ℕ
  pub weight : ℕ

-- What the name m weighs in a list.
unfoldable pub weight_in : List Named → ℕ → ℕ
weight_in [] m = 0
weight_in (x ∷ xs) m = weight_in xs m + part (eqb x.name m) x.weight

-- What all names of a list weigh.
unfoldable pub all_in : List Named → ℕ
all_in [] = 0
all_in (x ∷ xs) = all_in xs + x.weight

-- The name x with weight w is counted: it is none; its counter grows; w is taken off every counter; or e is, as much as an own
-- counter p had, which then is x's with what is left of w.
pub data Step (k x w : ℕ) (ns ws : ℕ → ℕ) : (ℕ → ℕ) → (ℕ → ℕ) → Type 0 where
  none : x ≡ 0 → Step k x w ns ws ns ws
  own : {vs : ℕ → ℕ} (p : ℕ) → p < k → ns p ≡ x → vs p ≡ ws p + w → ((i : ℕ) → i < k → (i ≡ p → ⊥) → vs i ≡ ws i) → Step k x w ns ws ns vs
  off : {vs : ℕ → ℕ} → Unnamed k ns x → ((i : ℕ) → i < k → vs i + w ≡ ws i) → Step k x w ns ws ns vs
  put : {us ms vs : ℕ → ℕ} (p e rest : ℕ) → 1 ≤ x → p < k → Unnamed k ns x → w ≡ e + rest → ((i : ℕ) → i < k → us i + e ≡ ws i) → us p ≡ 0
      → ms p ≡ x → ((i : ℕ) → i < k → (i ≡ p → ⊥) → ms i ≡ ns i) → vs p ≡ rest → ((i : ℕ) → i < k → (i ≡ p → ⊥) → vs i ≡ us i) → Step k x w ns ws ms vs

-- The names of a list are counted, the last first, from empty counters on.
pub data Steps (k : ℕ) : List Named → (ℕ → ℕ) → (ℕ → ℕ) → Type 0 where
  start : {ns ws : ℕ → ℕ} → ((i : ℕ) → i < k → ns i ≡ 0) → ((i : ℕ) → i < k → ws i ≡ 0) → Steps k [] ns ws
  more : {xs : List Named} {ns ws ms vs : ℕ → ℕ} (x : Named) → Steps k xs ns ws → Step k x.name x.weight ns ws ms vs → Steps k (x ∷ xs) ms vs
