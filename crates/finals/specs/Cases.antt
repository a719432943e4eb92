-- Computed cases of hasty timeouts and of first blocks.
use Rattle.std.specs.Prelude.{not, List, [], ◌∷◌, map, T}
use Rattle.rulebook.specs.Ledger.{Ledger, fresh}
use Rattle.rulebook.specs.Taking.{Arrival, of_input}
use Rattle.rulebook.specs.Scripts.{block, timeout, look, all}
use Rattle.rulebook.specs.Computes.{rules}
use Rattle.watchers.specs.Watching.{is_done}
use Rattle.finals.specs.Calm.{hasty_in}
use Rattle.finals.specs.Fed.{first_taken, timed_in}

-- Node 0 of three equal ones.
abbrev three : Ledger
three = fresh (1 ∷ 1 ∷ 1 ∷ []) 0 1

-- A timeout before the vote is hasty in its window and in no other; so is one of a later slot of the window, after a vote in the first.
before_the_vote : T (
    let early : List Arrival = map of_input (look ∷ timeout 1 ∷ block 1 7 0 1 ∷ []) in
    let later : List Arrival = map of_input (block 1 7 0 1 ∷ timeout 4 ∷ []) in
    all (hasty_in three early 0 ∷ not (hasty_in three early 1) ∷ hasty_in three later 0 ∷ [])
    )
unfolding rules hasty_in is_done
before_the_vote = tt

-- A timeout after the vote is not, nor is one that is refused: before anything has armed the window.
after_the_vote : T (
    let late : List Arrival = map of_input (block 1 7 0 1 ∷ timeout 1 ∷ []) in
    let refused : List Arrival = map of_input (timeout 1 ∷ block 1 7 0 1 ∷ []) in
    all (not (hasty_in three late 0) ∷ timed_in late 0 ∷ not (hasty_in three refused 0) ∷ timed_in refused 0 ∷ not (timed_in late 1) ∷ [])
    )
unfolding rules hasty_in timed_in is_done
after_the_vote = tt

-- The first block is the first that was accepted: one on itself is refused and does not count, nor does one of another slot.
first_accepted : T (
    let is : List Arrival = map of_input (block 2 5 1 7 ∷ block 1 9 1 9 ∷ block 1 7 0 1 ∷ block 1 8 0 1 ∷ []) in
    all (first_taken three is 1 7 0 1 ∷ not (first_taken three is 1 8 0 1) ∷ not (first_taken three is 1 7 0 2) ∷ first_taken three is 2 5 1 7 ∷ not (first_taken three is 3 7 0 1) ∷ [])
    )
unfolding rules first_taken is_done
first_accepted = tt
