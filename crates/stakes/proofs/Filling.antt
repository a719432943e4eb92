-- The stake table that stakes fill. Assumes nothing.
use Rattle.std.proofs.Common.{◌≡◌, ℕ, ◌++◌, List, length, take, drop, ap, ◌∙◌}
use lib.Seq.{take-append_seam}
use Rattle.stakes.specs.Table.{filled}

-- The stakes are the front of a filled table.
pub filled_front : (places ws : List ℕ) (n : ℕ) → n ≡ length ws → take n (filled ws places) ≡ ws
unfolding filled
filled_front places ws n e = ap (λ (k : ℕ). take k (ws ++ drop (length ws) places)) e ∙ take-append_seam ws (drop (length ws) places)
