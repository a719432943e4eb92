-- What telling of a final block asks of the lent memory, and where the walk begins.
use Rattle.std.specs.Prelude.{◌≡◌, Bool, false, not, ◌&&◌, List, ℕ, eqb, ltb}
use Rattle.rulebook.specs.Ledger.{Ledger, none, row_at, blocks_at}
use Rattle.rulebook.specs.Rules.{find_block}
use Rattle.voter.specs.Voting.{LiveAt}

-- A call is under way at slot s, and b is a block.
pub record TellingAt (ws out : List ℕ) (at s b : ℕ) : Type 0 where
  pub live : LiveAt ws out at s
  pub block : none b ≡ false

-- The walk from slot s has something to tell at its first step: the slot's final block is kept, its parent stands in a slot below, and is
-- not that slot's final block.
unfoldable pub walk_begins : Ledger → ℕ → Bool
walk_begins l s =
    let k = find_block (row_at l s).final (blocks_at l s) in
    let p = k.parentslot.0 in
    (not (none p) && ltb p s) && not (eqb (row_at l p).final k.parent)
