-- A computed case of what a watcher is shown: of each arrival that the node accepts, then the votes that it cast.
use Rattle.std.specs.Prelude.{◌&&◌, List, [], ◌∷◌, map, ℕ, T}
use Rattle.rulebook.specs.declared.Input.TheVariants as input
use Rattle.rulebook.specs.PaperNumbers.{vote_number}
use Rattle.rulebook.specs.Ledger.{Ledger, fresh}
use Rattle.rulebook.specs.Taking.{Arrival, of_input, of_packet}
use Rattle.rulebook.specs.Scripts.{vote, block, timeout, look, equals}
use Rattle.rulebook.specs.Computes.{rules}
use Rattle.watchers.specs.Watching.{tells_vote, as_votes, passed_on, is_done, shown_of, shown, all_taken}

-- A vote by its four numbers, a block and a timeout by the slot.
abbrev spelled : Arrival → List ℕ
spelled (of_input (input.Vote v)) = vote_number v.kind ∷ v.node.0 ∷ v.slot.0 ∷ v.block ∷ []
spelled (of_input (input.Block s b)) = s.0 ∷ []
spelled (of_input (input.Timeout s)) = s.0 ∷ []
spelled (of_input input.Look) = []
spelled (of_packet bytes) = []

-- Node 0 of three: its notar vote for the block, its final vote once node 1 has voted, and the skips of a window that times out are shown
-- in its name; a look, a timeout and what it refuses are not. A watcher accepts all of them.
shown_in_order : T (
    let l : Ledger = fresh (1 ∷ 1 ∷ 1 ∷ []) 0 1 in
    let cs : List Arrival = map of_input (look ∷ block 1 7 0 1 ∷ vote 1 0 1 7 ∷ vote 1 1 1 7 ∷ vote 3 1 2 0 ∷ timeout 2 ∷ []) in
    equals (map spelled (shown l cs))
    ((1 ∷ []) ∷ (1 ∷ 0 ∷ 1 ∷ 7 ∷ []) ∷ (1 ∷ 1 ∷ 1 ∷ 7 ∷ []) ∷ (5 ∷ 0 ∷ 1 ∷ 0 ∷ []) ∷ (3 ∷ 1 ∷ 2 ∷ 0 ∷ []) ∷ (3 ∷ 0 ∷ 2 ∷ 0 ∷ []) ∷ (3 ∷ 0 ∷ 3 ∷ 0 ∷ []) ∷ (3 ∷ 0 ∷ 4 ∷ 0 ∷ []) ∷ [])
    && all_taken (fresh (1 ∷ 1 ∷ 1 ∷ []) 3 1) (shown l cs)
    )
unfolding rules tells_vote as_votes passed_on is_done shown_of shown all_taken
shown_in_order = tt
