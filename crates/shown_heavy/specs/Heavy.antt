-- Blocks by weight: those that a fifth of the stake stands behind, and how many are lighter.
use Rattle.std.specs.Prelude.{Bool, not, ◌&&◌, ◌||◌, List, ℕ, ◌+◌, ◌≤◌, eqb, ltb}
use Rattle.rulebook.specs.declared.Cell.{Cell}
use Rattle.rulebook.specs.Tools.{whenever, part, sum_to, lowest}
use Rattle.rulebook.specs.Weights.{slot_ok}
use Rattle.rulebook.specs.Ledger.{Ledger, none, places, cell_at}
use Rattle.rulebook.specs.Pool.{weighs, names}
use Rattle.record.specs.Layout.{ledger_of}
use Rattle.soundness.specs.Sound.{sound_words}
use Rattle.pool.specs.Weighing.{Weighing, counted_before}
use Rattle.rulebook.specs.declared.Who.TheVariants as who

-- A fifth of the stake stands behind b in slot s, by notar and notar-fallback votes.
unfoldable pub is_heavy : Ledger → ℕ → ℕ → Bool
is_heavy l s b = weighs 1 l s (who.NotarOrFallback b)

-- It comes after another, and is heavy.
unfoldable pub heavy_past : Ledger → ℕ → ℕ → ℕ → Bool
heavy_past l s after b = ltb after b && is_heavy l s b

-- The lowest heavy block above `after` that the stored votes of slot s name; 0 where there is none, where the words are no sound
-- record, or the slot is not one of 1 to 16.
unfoldable pub heavy_after : List ℕ → ℕ → ℕ → ℕ
heavy_after ws s after =
    whenever (slot_ok s && sound_words ws) (λ _. lowest (heavy_past (ledger_of ws) s after) (names (ledger_of ws) s)) 0

-- There is a b other than one that was looked at, no node before n names it in slot s, and it is not heavy: 1, else 0.
unfoldable pub light_name : Ledger → ℕ → ℕ → ℕ → ℕ → ℕ
light_name l s n looked b =
    part (not (none b || eqb b looked) && (not (counted_before l s n (who.NotarOrFallback b)) && not (is_heavy l s b))) 1

-- How many blocks node n is the first to name in slot s that are not heavy.
unfoldable pub light_names : Ledger → ℕ → ℕ → Cell → ℕ
light_names l s n c =
    let first = c.notar in
    light_name l s n 0 first
    + (light_name l s n first c.fallback1 + (light_name l s n first c.fallback2 + light_name l s n first c.fallback3))

-- How many blocks the votes of the first n nodes in slot s name that are not heavy.
abbrev pub light_to : Ledger → ℕ → ℕ → ℕ
light_to l s n = sum_to n (λ i. light_names l s i (cell_at l s i))

-- How many the stored votes of slot s name; 0 where the words are no sound record, or the slot is not one of 1 to 16.
unfoldable pub light_blocks : List ℕ → ℕ → ℕ
light_blocks ws s =
    whenever (slot_ok s && sound_words ws) (λ _. light_to (ledger_of ws) s (ledger_of ws).count) 0

-- Likewise, and node n has a place.
pub record CountingAt (ws : List ℕ) (s n : ℕ) : Type 0 where
  pub weighing : Weighing ws s
  pub node : n ≤ places (ledger_of ws)
