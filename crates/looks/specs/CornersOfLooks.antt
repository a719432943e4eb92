-- Computed cases of who names a block in a slot, the own node with them, and of a word that stays short of 60 percent.
use Rattle.std.specs.Prelude.{Bool, not, [], ◌∷◌, T, eqb}
use Rattle.rulebook.specs.declared.VoteKind.TheVariants as kind
use Rattle.rulebook.specs.Ledger.{Ledger, fresh}
use Rattle.rulebook.specs.Scripts.{vote, stored, all}
use Rattle.rulebook.specs.Computes.{rules}
use Rattle.parents.specs.Naming.{names_some}
use Rattle.looks.specs.Looks.{is_beside, named_beside, is_short, names_block}

-- Node 1 has 50 percent, the own node and node 2 have 20 and 30.
abbrev untouched : Ledger
untouched = fresh (2 ∷ 5 ∷ 3 ∷ []) 0 1

-- The own node alone; node 2 with it by a notar-fallback, once however often it names; nobody by a skip, a final vote or in another slot.
abbrev beside : Bool
beside =
    all (eqb (named_beside untouched 4) 2 ∷ eqb (named_beside (stored untouched (vote 2 2 4 7 ∷ vote 2 2 4 8 ∷ [])) 4) 5
    ∷ eqb (named_beside (stored untouched (vote 1 1 4 7 ∷ vote 1 2 4 8 ∷ [])) 4) 10
    ∷ eqb (named_beside (stored untouched (vote 3 1 4 0 ∷ vote 5 2 4 0 ∷ vote 1 2 3 7 ∷ [])) 4) 2 ∷ [])

-- 5 of 10 are short of 60 percent, 6 are not; a slot without a word is not short.
abbrev short : Bool
short =
    all (is_short untouched (10 ∷ 5 ∷ []) 1 ∷ not (is_short untouched (10 ∷ 6 ∷ []) 1) ∷ not (is_short untouched (0 ∷ 0 ∷ []) 2) ∷ [])

-- Notar and notar-fallback name a block, no other kind does.
abbrev naming : Bool
naming =
    all (names_block kind.Notar ∷ names_block kind.NotarFallback ∷ not (names_block kind.Skip) ∷ not (names_block kind.SkipFallback)
    ∷ not (names_block kind.Final) ∷ not (names_block kind.Other) ∷ [])

corners_of_looks : T (all (beside ∷ short ∷ naming ∷ []))
unfolding rules names_some is_beside named_beside is_short names_block
corners_of_looks = tt
