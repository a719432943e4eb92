-- Computed cases of what rule D waits for outside first slots, the block and its parent's certificate, and of the block that B looks at.
use Rattle.std.specs.Prelude.{Bool, ◌&&◌, List, [], ◌∷◌, ◌++◌, ℕ, T}
use Rattle.rulebook.specs.declared.Input.{Input}
use Rattle.rulebook.specs.Ledger.{Ledger, put_armed}
use Rattle.rulebook.specs.Rules.{rule_d}
use Rattle.rulebook.specs.Scripts.{vote, block, timeout, look, votes, answers, stored, told_by, later_armed, all_armed, ring, equals, all}
use Rattle.rulebook.specs.Computes.{rules}

-- The own node's skips in a list of slots.
abbrev own_skips : List ℕ → List Input
own_skips [] = []
own_skips (s ∷ ss) = vote 3 0 s 0 ∷ own_skips ss

-- A ring with its windows armed and the first skipped by the own node, so that D casts no skip there.
abbrev skipped : List ℕ → Ledger
skipped stakes = stored (all_armed (ring stakes [])) (own_skips (1 ∷ 2 ∷ 3 ∷ 4 ∷ []))

-- Tenths of the total: node 1's notar vote gives block 9 of slot 2 the weights of D.
abbrev voted : Ledger
voted = stored (skipped (1 ∷ 4 ∷ 5 ∷ [])) (vote 1 1 2 9 ∷ [])

-- Kind 3 for block 7 of slot 1, by fallback votes alone: D has no weights there.
abbrev certified : List Input
certified = votes 2 (1 ∷ 2 ∷ []) 1 7

-- The fallback for block 9, and nothing, as the answer to an input.
abbrev falls : List ℕ
falls = 0 ∷ 2 ∷ 2 ∷ 9 ∷ []

abbrev nothing : List ℕ
nothing = 0 ∷ []

-- It waits for the block, and falls back when it is announced, once.
abbrev for_the_block : Bool
for_the_block =
    let early = stored voted certified in
    let late = stored early (block 2 8 1 7 ∷ block 3 9 1 7 ∷ []) in
    equals (told_by rule_d 2 early ∷ told_by rule_d 2 late ∷ []) ([] ∷ [] ∷ [])
    && equals (answers late (block 2 9 1 7 ∷ look ∷ [])) (falls ∷ nothing ∷ [])

-- It waits for the parent's certificate, and falls back on the vote that completes it: 50 percent are too few, 60 are enough, the
-- own fallback among them, and notar votes as well as fallbacks.
abbrev for_the_parent : Bool
for_the_parent =
    let kept = stored voted (block 2 9 1 7 ∷ vote 2 2 1 7 ∷ []) in
    let others = stored kept (vote 2 1 1 8 ∷ vote 2 1 2 7 ∷ []) in
    equals (answers others (vote 2 1 1 7 ∷ [])) (falls ∷ [])
    && equals (told_by rule_d 2 kept ∷ told_by rule_d 2 others ∷ told_by rule_d 2 (stored kept (vote 2 0 1 7 ∷ [])) ∷ told_by rule_d 2 (stored voted (block 2 9 1 7 ∷ vote 2 0 1 7 ∷ vote 1 2 1 7 ∷ [])) ∷ [])
    ([] ∷ [] ∷ (2 ∷ 2 ∷ 9 ∷ []) ∷ (2 ∷ 2 ∷ 9 ∷ []) ∷ [])

-- A timeout in slot 3 skips the window; so D falls back in slot 1, whose block is the parent of the one that slot 6 waits with.
abbrev on_a_timeout : Bool
on_a_timeout =
    let l = stored (all_armed (ring (2 ∷ 4 ∷ 4 ∷ []) [])) (own_skips (5 ∷ 6 ∷ 7 ∷ 8 ∷ []) ++ (block 6 9 1 7 ∷ vote 1 1 6 9 ∷ vote 1 1 1 7 ∷ [])) in
    equals (answers l (look ∷ timeout 3 ∷ []))
    (nothing ∷ (0 ∷ 3 ∷ 1 ∷ 0 ∷ 3 ∷ 2 ∷ 0 ∷ 3 ∷ 3 ∷ 0 ∷ 3 ∷ 4 ∷ 0 ∷ 2 ∷ 1 ∷ 7 ∷ 2 ∷ 6 ∷ 9 ∷ []) ∷ [])

-- The parent stands in any lower slot; its own slot and number are asked for, not those next door.
abbrev that_parent : Bool
that_parent =
    let own : ℕ → ℕ → ℕ → ℕ → List ℕ = (λ p x q y. told_by rule_d 4 (stored (skipped (1 ∷ 4 ∷ 5 ∷ [])) (block 4 9 p x ∷ vote 1 1 4 9 ∷ votes 2 (1 ∷ 2 ∷ []) q y))) in
    equals (own 3 7 3 7 ∷ own 1 7 1 7 ∷ own 1 7 3 7 ∷ own 3 7 1 7 ∷ own 3 7 3 8 ∷ own 1 7 1 9 ∷ [])
    ((2 ∷ 4 ∷ 9 ∷ []) ∷ (2 ∷ 4 ∷ 9 ∷ []) ∷ [] ∷ [] ∷ [] ∷ [] ∷ [])

-- A block's number says nothing of slots: numbers below the slot, the parent's among them, fall back like any other.
abbrev small_numbers : Bool
small_numbers =
    let own : ℕ → ℕ → ℕ → List ℕ = (λ b p x. told_by rule_d 4 (stored (skipped (1 ∷ 4 ∷ 5 ∷ [])) (block 4 b p x ∷ vote 1 1 4 b ∷ votes 2 (1 ∷ 2 ∷ []) p x))) in
    equals (own 1 3 7 ∷ own 2 3 1 ∷ own 3 3 3 ∷ own 4 2 4 ∷ []) ((2 ∷ 4 ∷ 1 ∷ []) ∷ (2 ∷ 4 ∷ 2 ∷ []) ∷ (2 ∷ 4 ∷ 3 ∷ []) ∷ (2 ∷ 4 ∷ 4 ∷ []) ∷ [])

-- Genesis has no certificate: its child outside a first slot never, also where blocks of genesis's number are certified.
abbrev genesis_child : Bool
genesis_child =
    equals (told_by rule_d 2 (stored voted (block 2 9 0 1 ∷ [])) ∷ told_by rule_d 2 (stored voted (block 2 9 0 1 ∷ (votes 2 (1 ∷ 2 ∷ []) 1 1 ++ certified))) ∷ []) ([] ∷ [] ∷ [])

-- First slots ask for neither block nor certificate; the slots beside them wait.
abbrev first_slots : Bool
first_slots =
    let own : ℕ → List ℕ = (λ s. told_by rule_d s (stored (skipped (1 ∷ 4 ∷ 5 ∷ [])) (own_skips (5 ∷ 6 ∷ 7 ∷ 8 ∷ 9 ∷ 10 ∷ 11 ∷ 12 ∷ 13 ∷ 14 ∷ 15 ∷ 16 ∷ []) ++ (vote 1 1 s 9 ∷ [])))) in
    equals (own 1 ∷ own 5 ∷ own 9 ∷ own 13 ∷ []) ((2 ∷ 1 ∷ 9 ∷ []) ∷ (2 ∷ 5 ∷ 9 ∷ []) ∷ (2 ∷ 9 ∷ 9 ∷ []) ∷ (2 ∷ 13 ∷ 9 ∷ []) ∷ [])
    && equals (own 2 ∷ own 4 ∷ own 6 ∷ own 12 ∷ own 14 ∷ own 16 ∷ []) ([] ∷ [] ∷ [] ∷ [] ∷ [] ∷ [] ∷ [])

-- The block is found in each of the four places.
abbrev each_place : Bool
each_place =
    let l = stored voted certified in
    equals (told_by rule_d 2 (stored l (block 2 9 1 7 ∷ block 2 21 1 7 ∷ [])) ∷ told_by rule_d 2 (stored l (block 2 21 1 7 ∷ block 2 9 1 7 ∷ [])) ∷ told_by rule_d 2 (stored l (block 2 21 1 7 ∷ block 2 22 1 7 ∷ block 2 9 1 7 ∷ []))
    ∷ told_by rule_d 2 (stored l (block 2 21 1 7 ∷ block 2 22 1 7 ∷ block 2 23 1 7 ∷ block 2 9 1 7 ∷ [])) ∷ [])
    ((2 ∷ 2 ∷ 9 ∷ []) ∷ (2 ∷ 2 ∷ 9 ∷ []) ∷ (2 ∷ 2 ∷ 9 ∷ []) ∷ (2 ∷ 2 ∷ 9 ∷ []) ∷ [])

-- D's skips wait too: in an open window, and beside an own final, where they are all that D casts.
abbrev skips_wait : Bool
skips_wait =
    let early = stored (all_armed (ring (1 ∷ 4 ∷ 5 ∷ []) [])) (vote 3 0 2 0 ∷ vote 1 1 2 9 ∷ certified) in
    let final = stored early (vote 5 0 2 0 ∷ []) in
    equals (told_by rule_d 2 early ∷ told_by rule_d 2 final ∷ []) ([] ∷ [] ∷ [])
    && equals (answers early (block 2 9 1 7 ∷ []) ++ answers final (block 2 9 1 7 ∷ []))
    ((0 ∷ 3 ∷ 1 ∷ 0 ∷ 3 ∷ 3 ∷ 0 ∷ 3 ∷ 4 ∷ 0 ∷ 2 ∷ 2 ∷ 9 ∷ []) ∷ (0 ∷ 3 ∷ 1 ∷ 0 ∷ 3 ∷ 3 ∷ 0 ∷ 3 ∷ 4 ∷ 0 ∷ []) ∷ [])

-- A lower block that waits holds back neither a higher one nor E.
abbrev others_go_on : Bool
others_go_on =
    let l = stored (skipped (2 ∷ 4 ∷ 4 ∷ [])) (vote 1 1 2 9 ∷ vote 1 2 2 8 ∷ certified) in
    let own = stored (all_armed (ring (2 ∷ 4 ∷ 4 ∷ []) [])) (own_skips (1 ∷ 3 ∷ 4 ∷ []) ++ (vote 1 0 2 10 ∷ vote 1 1 2 9 ∷ vote 1 2 2 8 ∷ certified)) in
    equals (answers l (block 2 9 1 7 ∷ block 2 8 1 7 ∷ [])) (falls ∷ (0 ∷ 2 ∷ 2 ∷ 8 ∷ []) ∷ [])
    && equals (answers own (look ∷ block 2 9 1 7 ∷ [])) ((0 ∷ 4 ∷ 2 ∷ 0 ∷ []) ∷ falls ∷ [])

-- B looks at the first block alone, in a first slot and in another: a later one with a parent that fits gets no notar vote.
abbrev first_block_alone : Bool
first_block_alone =
    let l = later_armed (ring (1 ∷ 9 ∷ []) []) in
    equals (answers l (block 1 7 0 1 ∷ block 1 6 0 1 ∷ block 2 8 1 6 ∷ block 2 9 1 7 ∷ []))
    ((0 ∷ 7 ∷ 1 ∷ 0 ∷ 1 ∷ 1 ∷ 7 ∷ []) ∷ nothing ∷ nothing ∷ nothing ∷ [])
    && equals (answers l (block 2 9 1 7 ∷ block 2 8 1 6 ∷ block 1 7 0 1 ∷ [])) ((0 ∷ 7 ∷ 1 ∷ 0 ∷ []) ∷ nothing ∷ (0 ∷ 1 ∷ 1 ∷ 7 ∷ 1 ∷ 2 ∷ 9 ∷ []) ∷ [])
    && equals (answers (stored (put_armed (put_armed (ring (1 ∷ 9 ∷ []) []) 9) 13) (votes 1 (1 ∷ []) 4 7)) (block 5 30 4 8 ∷ block 5 31 4 7 ∷ [])) ((0 ∷ 7 ∷ 1 ∷ 0 ∷ 6 ∷ 4 ∷ 7 ∷ 7 ∷ 5 ∷ 0 ∷ []) ∷ nothing ∷ [])

corners_of_waits : T (all (for_the_block ∷ for_the_parent ∷ on_a_timeout ∷ that_parent ∷ small_numbers ∷ genesis_child ∷ first_slots ∷ each_place ∷ skips_wait ∷ others_go_on ∷ first_block_alone ∷ []))
unfolding rules
corners_of_waits = tt
