-- Computed cases of where the walk begins.
use Rattle.std.specs.Prelude.{Bool, not, [], ◌∷◌, T}
use Rattle.rulebook.specs.Ledger.{Ledger, put_final, fresh}
use Rattle.rulebook.specs.Scripts.{block, stored, all}
use Rattle.rulebook.specs.Computes.{rules}
use Rattle.finality.specs.Telling.{walk_begins}

-- Blocks 21, 31 and 41 of slots 2 to 4, each the parent of the next; 21 is a child of genesis.
abbrev chained : Ledger
chained = stored (fresh (1 ∷ 1 ∷ 1 ∷ []) 0 1) (block 2 21 0 1 ∷ block 3 31 2 21 ∷ block 4 41 3 31 ∷ [])

-- From a final block whose parent is not its slot's final block, be there another or none; not where the parent is, not down to genesis,
-- not from a final block that is not kept, and not from a slot that has none.
abbrev begins : Bool
begins =
    all (walk_begins (put_final chained 4 41) 4 ∷ walk_begins (put_final (put_final chained 3 32) 4 41) 4
    ∷ not (walk_begins (put_final (put_final chained 3 31) 4 41) 4) ∷ not (walk_begins (put_final chained 2 21) 2)
    ∷ not (walk_begins (put_final chained 4 42) 4) ∷ not (walk_begins chained 4) ∷ [])

corners_of_walks : T begins
unfolding rules walk_begins
corners_of_walks = tt
