-- Computed cases of the policy for blocks and of accepted timeouts.
use Rattle.std.specs.Prelude.{not, List, [], ◌∷◌, ◌++◌, map, T}
use Rattle.rulebook.specs.Ledger.{Ledger, fresh, blocks_at, some_block, is_free, keeps_block}
use Rattle.rulebook.specs.Rules.{fallback_weights}
use Rattle.rulebook.specs.Taking.{Arrival, of_input}
use Rattle.rulebook.specs.Scripts.{vote, block, timeout, look, all}
use Rattle.rulebook.specs.Computes.{rules}
use Rattle.watchers.specs.Watching.{is_done}
use Rattle.safety.specs.Ring.{after_all}
use Rattle.mail.specs.Mail.{timed_out_in}
use Rattle.mail.specs.Policy.{may_announce, by_policy}

-- Node 0 of five equal ones, which has timed out slot 1.
abbrev five : Ledger
five = fresh (1 ∷ 1 ∷ 1 ∷ 1 ∷ 1 ∷ []) 0 1

abbrev quick : List Arrival
quick = map of_input (look ∷ timeout 1 ∷ [])

-- A skip, and a notar vote for each of three blocks: each of them has rule D's weights.
abbrev split : List Arrival
split = map of_input (vote 3 4 1 0 ∷ vote 1 1 1 6 ∷ vote 1 2 1 7 ∷ vote 1 3 1 8 ∷ [])

-- One block as it comes and three with the weights: the four places are full, by the policy.
all_places_filled : T (
    let is : List Arrival = quick ++ map of_input (block 1 9 0 1 ∷ []) ++ split ++ map of_input (block 1 6 0 1 ∷ block 1 7 0 1 ∷ block 1 8 0 1 ∷ block 1 9 0 1 ∷ []) in
    let l : Ledger = after_all five is in
    all (by_policy five is ∷ keeps_block l 1 9 0 1 ∷ keeps_block l 1 6 0 1 ∷ keeps_block l 1 7 0 1 ∷ keeps_block l 1 8 0 1 ∷ not (some_block is_free (blocks_at l 1)) ∷ [])
    )
unfolding rules after_all may_announce by_policy
all_places_filled = tt

-- Four blocks as they come, against the policy: a block with the weights finds no place.
no_place_left : T (
    let is : List Arrival = quick ++ map of_input (block 1 9 0 1 ∷ block 1 10 0 1 ∷ block 1 11 0 1 ∷ block 1 12 0 1 ∷ []) ++ split ++ map of_input (block 1 7 0 1 ∷ []) in
    let l : Ledger = after_all five is in
    all (not (by_policy five is) ∷ fallback_weights l 1 7 ∷ not (keeps_block l 1 7 0 1) ∷ [])
    )
unfolding rules after_all may_announce by_policy
no_place_left = tt

-- A timeout counts where it is accepted: not before the window is armed.
accepted_alone : T (
    all (not (timed_out_in five (map of_input (timeout 1 ∷ look ∷ [])) 1) ∷ timed_out_in five (map of_input (look ∷ timeout 2 ∷ [])) 2
    ∷ not (timed_out_in five (map of_input (look ∷ timeout 2 ∷ [])) 1) ∷ [])
    )
unfolding rules timed_out_in is_done
accepted_alone = tt
