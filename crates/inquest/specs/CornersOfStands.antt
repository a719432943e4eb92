-- Computed cases of own votes: all that each stands on, and one thing less or another in its place.
use Rattle.std.specs.Prelude.{Bool, not, List, [], ◌∷◌, ◌++◌, ℕ, T}
use Rattle.rulebook.specs.declared.Input.{Input}
use Rattle.rulebook.specs.Ledger.{Ledger, fresh}
use Rattle.rulebook.specs.Scripts.{vote, block, votes, stored, all}
use Rattle.rulebook.specs.Computes.{rules}
use Rattle.safety.specs.Slot.{notar, notar_fallback, skip, skip_fallback, final}
use Rattle.inquest.specs.Stands.{none_or, lets_notar, notar_stands, fallback_stands, late_stands, final_stands, vote_stands, slot_stands, stands}

-- Node 0 of five with one stake each, and what was stored: none is refused, and no rule is run.
abbrev five : List Input → Ledger
five is = stored (fresh (1 ∷ 1 ∷ 1 ∷ 1 ∷ 1 ∷ []) 0 1) is

abbrev stand : List Input → Bool
stand is = stands (five is)

abbrev fall : List Input → Bool
fall is = not (stands (five is))

-- Skips of slot s by three of the five.
abbrev skips : ℕ → List Input
skips s = votes 3 (1 ∷ 2 ∷ 3 ∷ []) s 0

-- Own votes for 7 in slot 1 and for 9 in slot 2, the first with its block.
abbrev two : List Input
two = vote 1 0 1 7 ∷ block 1 7 0 1 ∷ vote 1 0 2 9 ∷ []

-- B: a kept block of that number, in whatever place, with its parent ready in a first slot, and in another with the own notar vote in the slot
-- before. A skip stands on nothing.
corners_of_notar : T (all
    (stand (vote 1 0 1 7 ∷ block 1 7 0 1 ∷ []) ∷ fall (vote 1 0 1 7 ∷ []) ∷ fall (vote 1 0 1 7 ∷ block 1 8 0 1 ∷ []) ∷ fall (vote 1 0 1 7 ∷ block 1 7 0 2 ∷ [])
    ∷ stand (vote 1 0 1 7 ∷ block 1 8 0 1 ∷ block 1 9 0 1 ∷ block 1 7 0 1 ∷ []) ∷ fall (vote 1 0 1 7 ∷ block 2 7 0 1 ∷ []) ∷ fall (vote 1 0 16 7 ∷ [])
    ∷ stand (two ++ (block 2 9 1 7 ∷ [])) ∷ fall (two ++ (block 2 9 1 8 ∷ [])) ∷ fall (two ++ (block 2 9 0 1 ∷ [])) ∷ fall (vote 3 0 1 0 ∷ vote 1 0 2 9 ∷ block 2 9 1 7 ∷ [])
    ∷ stand (vote 1 0 5 9 ∷ block 5 9 0 1 ∷ skips 1 ++ (skips 2 ++ (skips 3 ++ skips 4))) ∷ fall (vote 1 0 5 9 ∷ block 5 9 0 1 ∷ skips 1 ++ (skips 2 ++ skips 3))
    ∷ stand (vote 3 0 1 0 ∷ []) ∷ stand [] ∷ stand (vote 1 1 1 7 ∷ vote 5 1 1 0 ∷ []) ∷ []))
unfolding rules none_or lets_notar notar_stands fallback_stands late_stands final_stands slot_stands stands
corners_of_notar = tt

-- D: another own initial vote, the weights, and outside first slots the block with its parent's certificate.
corners_of_fallback : T (all
    (stand (vote 3 0 1 0 ∷ vote 2 0 1 7 ∷ votes 1 (1 ∷ 2 ∷ []) 1 7) ∷ fall (vote 3 0 1 0 ∷ vote 2 0 1 7 ∷ vote 1 1 1 7 ∷ []) ∷ fall (vote 2 0 1 7 ∷ votes 1 (1 ∷ 2 ∷ []) 1 7)
    ∷ fall (vote 1 0 1 7 ∷ block 1 7 0 1 ∷ vote 2 0 1 7 ∷ votes 1 (1 ∷ 2 ∷ []) 1 7) ∷ stand (vote 1 0 1 8 ∷ block 1 8 0 1 ∷ vote 2 0 1 7 ∷ votes 1 (1 ∷ 2 ∷ []) 1 7)
    ∷ stand (vote 3 0 2 0 ∷ vote 2 0 2 9 ∷ votes 1 (1 ∷ 2 ∷ []) 2 9 ++ (block 2 9 1 7 ∷ votes 2 (1 ∷ 2 ∷ 3 ∷ []) 1 7)) ∷ fall (vote 3 0 2 0 ∷ vote 2 0 2 9 ∷ votes 1 (1 ∷ 2 ∷ []) 2 9 ++ votes 2 (1 ∷ 2 ∷ 3 ∷ []) 1 7)
    ∷ fall (vote 3 0 2 0 ∷ vote 2 0 2 9 ∷ votes 1 (1 ∷ 2 ∷ []) 2 9 ++ (block 2 9 1 7 ∷ votes 2 (1 ∷ 2 ∷ []) 1 7))
    ∷ stand (vote 3 0 2 0 ∷ vote 2 0 2 8 ∷ vote 2 0 2 9 ∷ block 2 8 1 7 ∷ block 2 9 1 7 ∷ votes 1 (1 ∷ 2 ∷ []) 2 8 ++ (votes 1 (3 ∷ 4 ∷ []) 2 9 ++ votes 2 (1 ∷ 2 ∷ 3 ∷ []) 1 7)) ∷ []))
unfolding rules none_or lets_notar notar_stands fallback_stands late_stands final_stands slot_stands stands
corners_of_fallback = tt

-- Three fallbacks by 20 percent each and 40 of skips; each place is asked.
abbrev three : ℕ → ℕ → ℕ → Bool
three a b c =
    stands (stored (fresh (4 ∷ 2 ∷ 2 ∷ 2 ∷ []) 0 1) (vote 3 0 1 0 ∷ vote 1 1 1 7 ∷ vote 1 2 1 8 ∷ vote 1 3 1 9 ∷ vote 2 0 1 a ∷ vote 2 0 1 b ∷ vote 2 0 1 c ∷ []))

-- The same with an own notar vote for 9, and a skip of 40 percent: a fallback for 9 has the weights and falls, in whatever place.
abbrev beside : List Input → Bool
beside is =
    stands (stored (fresh (2 ∷ 2 ∷ 2 ∷ 4 ∷ []) 0 1) (vote 1 0 1 9 ∷ block 1 9 0 1 ∷ vote 1 1 1 7 ∷ vote 1 2 1 8 ∷ vote 3 3 1 0 ∷ is))

corners_of_three : T (all
    (three 7 8 9 ∷ not (three 6 8 9) ∷ not (three 7 6 9) ∷ not (three 7 8 6) ∷ beside (vote 2 0 1 7 ∷ vote 2 0 1 8 ∷ []) ∷ not (beside (vote 2 0 1 7 ∷ vote 2 0 1 6 ∷ []))
    ∷ not (beside (vote 2 0 1 7 ∷ vote 2 0 1 9 ∷ [])) ∷ not (beside (vote 2 0 1 7 ∷ vote 2 0 1 8 ∷ vote 2 0 1 9 ∷ [])) ∷ []))
unfolding rules none_or lets_notar notar_stands fallback_stands late_stands final_stands slot_stands stands
corners_of_three = tt

-- An own notar vote for 7 that stands.
abbrev seven : List Input
seven = vote 1 0 1 7 ∷ block 1 7 0 1 ∷ []

-- E: an own notar vote and the weights. C: an own notar vote, no own fallback of either kind, though it stands for itself, and kind 2 for that block.
corners_of_last : T (all
    (stand (seven ++ (vote 4 0 1 0 ∷ votes 3 (1 ∷ 2 ∷ []) 1 0)) ∷ fall (seven ++ (vote 4 0 1 0 ∷ vote 3 1 1 0 ∷ [])) ∷ fall (vote 3 0 1 0 ∷ vote 4 0 1 0 ∷ votes 3 (1 ∷ 2 ∷ []) 1 0)
    ∷ stand (seven ++ (vote 5 0 1 0 ∷ votes 1 (1 ∷ 2 ∷ []) 1 7)) ∷ fall (seven ++ (vote 5 0 1 0 ∷ vote 1 1 1 7 ∷ [])) ∷ fall (seven ++ (vote 5 0 1 0 ∷ votes 1 (1 ∷ 2 ∷ 3 ∷ []) 1 8))
    ∷ fall (vote 3 0 1 0 ∷ vote 5 0 1 0 ∷ votes 1 (1 ∷ 2 ∷ 3 ∷ []) 1 7) ∷ fall (seven ++ (vote 5 0 1 0 ∷ vote 1 1 1 7 ∷ votes 2 (2 ∷ 3 ∷ []) 1 7))
    ∷ stand (seven ++ (vote 2 0 1 8 ∷ votes 1 (1 ∷ 2 ∷ []) 1 7 ++ votes 1 (3 ∷ 4 ∷ []) 1 8)) ∷ fall (seven ++ (vote 5 0 1 0 ∷ vote 2 0 1 8 ∷ votes 1 (1 ∷ 2 ∷ []) 1 7 ++ votes 1 (3 ∷ 4 ∷ []) 1 8))
    ∷ stand (seven ++ (vote 4 0 1 0 ∷ votes 1 (1 ∷ 2 ∷ []) 1 7 ++ votes 3 (3 ∷ 4 ∷ []) 1 0)) ∷ fall (seven ++ (vote 5 0 1 0 ∷ vote 4 0 1 0 ∷ votes 1 (1 ∷ 2 ∷ []) 1 7 ++ votes 3 (3 ∷ 4 ∷ []) 1 0)) ∷ []))
unfolding rules none_or lets_notar notar_stands fallback_stands late_stands final_stands slot_stands stands
corners_of_last = tt

-- A vote by itself, whether it is stored or not.
abbrev hold : Ledger
hold = five (seven ++ (vote 1 1 1 7 ∷ vote 1 2 1 7 ∷ votes 1 (3 ∷ 4 ∷ []) 1 8))

abbrev lone : Ledger
lone = five (seven ++ votes 3 (1 ∷ 2 ∷ []) 1 0)

corners_of_votes : T (all
    (vote_stands hold 1 (notar 7) ∷ not (vote_stands hold 1 (notar 8)) ∷ not (vote_stands hold 2 (notar 7)) ∷ vote_stands hold 1 (notar_fallback 8) ∷ not (vote_stands hold 1 (notar_fallback 7))
    ∷ not (vote_stands hold 2 (notar_fallback 8)) ∷ vote_stands hold 2 skip ∷ vote_stands hold 1 final ∷ not (vote_stands hold 2 final) ∷ vote_stands hold 1 skip_fallback ∷ not (vote_stands lone 1 final)
    ∷ vote_stands lone 1 skip_fallback ∷ not (vote_stands lone 2 skip_fallback) ∷ not (vote_stands (five (votes 3 (0 ∷ 1 ∷ 2 ∷ []) 1 0)) 1 skip_fallback) ∷ []))
unfolding rules none_or lets_notar notar_stands fallback_stands late_stands final_stands vote_stands
corners_of_votes = tt
