-- Computed cases of a host's deeds, and of the words in which own votes are read.
use Rattle.std.specs.Prelude.{Bool, not, ◌&&◌, List, [], ◌∷◌, ℕ, T, eqb}
use Rattle.rulebook.specs.Rules.{Record, record_of}
use Rattle.rulebook.specs.Scripts.{flatten, equal, all}
use Rattle.rulebook.specs.Computes.{rules}
use Rattle.safety.specs.Slot.{notar, notar_fallback, skip, skip_fallback, final}
use Rattle.safety.specs.Ballots.{has}
use Rattle.seen.specs.Seen.{Seen}
use Rattle.restart.specs.Kept.{cell_in}
use Rattle.restart.specs.Deeds.{Deed, calls, stores, sends, dies, puts_back, after_deed, after_deeds, dies_in, all_told, in_order, all_in_order, opened}

-- A life that told these records, a notar vote, and that vote and a final one.
abbrev life_that : List Record → Seen
life_that told = record { words = []; told = told; came = [] }

abbrev notar_vote : List Record
notar_vote = record_of 1 1 7 ∷ []

abbrev final_vote : List Record
final_vote = record_of 5 1 0 ∷ []

abbrev both_votes : List Record
both_votes = record_of 1 1 7 ∷ record_of 5 1 0 ∷ []

abbrev ordered : List Deed → Bool
ordered xs = all_in_order (opened []) xs

-- After these deeds the lives in memory and on the disk have told, and was sent.
abbrev has_now : List Deed → (living stored sent : List ℕ) → Bool
has_now xs living stored sent =
    let d = after_deeds (opened []) xs in
    equal (flatten d.living.told) living && (equal (flatten d.stored.told) stored && equal (flatten d.sent) sent)

-- What is stored may be sent, again and after a death too; what memory alone has may not, nor may it in company; nothing may always be sent.
abbrev sending : Bool
sending =
    all (ordered (calls (life_that notar_vote) ∷ stores ∷ sends notar_vote ∷ sends notar_vote ∷ [])
    ∷ not (ordered (calls (life_that notar_vote) ∷ sends notar_vote ∷ stores ∷ []))
    ∷ not (ordered (calls (life_that notar_vote) ∷ stores ∷ calls (life_that both_votes) ∷ sends final_vote ∷ []))
    ∷ not (ordered (calls (life_that notar_vote) ∷ stores ∷ sends both_votes ∷ []))
    ∷ ordered (calls (life_that notar_vote) ∷ stores ∷ calls (life_that both_votes) ∷ dies ∷ sends notar_vote ∷ [])
    ∷ not (ordered (calls (life_that notar_vote) ∷ stores ∷ calls (life_that both_votes) ∷ dies ∷ stores ∷ sends final_vote ∷ []))
    ∷ ordered (sends [] ∷ dies ∷ [])
    ∷ not (ordered (puts_back (life_that []) ∷ [])) ∷ [])

-- What each deed leaves.
abbrev leaving : Bool
leaving =
    all (has_now (calls (life_that notar_vote) ∷ []) (1 ∷ 1 ∷ 7 ∷ []) [] []
    ∷ has_now (calls (life_that notar_vote) ∷ stores ∷ []) (1 ∷ 1 ∷ 7 ∷ []) (1 ∷ 1 ∷ 7 ∷ []) []
    ∷ has_now (calls (life_that notar_vote) ∷ calls (life_that both_votes) ∷ []) (1 ∷ 1 ∷ 7 ∷ 5 ∷ 1 ∷ 0 ∷ []) [] []
    ∷ has_now (calls (life_that notar_vote) ∷ dies ∷ []) [] [] []
    ∷ has_now (calls (life_that notar_vote) ∷ stores ∷ calls (life_that both_votes) ∷ sends notar_vote ∷ []) (1 ∷ 1 ∷ 7 ∷ 5 ∷ 1 ∷ 0 ∷ []) (1 ∷ 1 ∷ 7 ∷ []) (1 ∷ 1 ∷ 7 ∷ [])
    ∷ has_now (sends notar_vote ∷ sends final_vote ∷ calls (life_that final_vote) ∷ stores ∷ dies ∷ []) (5 ∷ 1 ∷ 0 ∷ []) (5 ∷ 1 ∷ 0 ∷ []) (1 ∷ 1 ∷ 7 ∷ 5 ∷ 1 ∷ 0 ∷ [])
    ∷ has_now (calls (life_that both_votes) ∷ sends final_vote ∷ puts_back (life_that notar_vote) ∷ []) (1 ∷ 1 ∷ 7 ∷ []) (1 ∷ 1 ∷ 7 ∷ []) (5 ∷ 1 ∷ 0 ∷ []) ∷ [])

-- A death is found wherever it stands, and nothing else is one.
abbrev dying : Bool
dying =
    all (dies_in (calls (life_that []) ∷ stores ∷ sends [] ∷ puts_back (life_that []) ∷ dies ∷ stores ∷ [])
    ∷ not (dies_in (calls (life_that []) ∷ stores ∷ sends [] ∷ puts_back (life_that []) ∷ [])) ∷ [])

-- Seven words, each of which tells its own vote and no other; a word that is not there tells none.
abbrev reading : Bool
reading =
    let some = cell_in (7 ∷ 0 ∷ 8 ∷ 9 ∷ 10 ∷ 1 ∷ 0 ∷ []) in
    let others = cell_in (0 ∷ 1 ∷ 0 ∷ 0 ∷ 0 ∷ 0 ∷ 1 ∷ []) in
    let none = cell_in [] in
    all (has some (notar 7) ∷ not (has some skip) ∷ has some (notar_fallback 8) ∷ has some (notar_fallback 9) ∷ has some (notar_fallback 10)
    ∷ not (has some (notar_fallback 7)) ∷ has some skip_fallback ∷ not (has some final)
    ∷ eqb some.fallback1 8 ∷ eqb some.fallback2 9 ∷ not (has (cell_in (7 ∷ 0 ∷ 8 ∷ 9 ∷ 10 ∷ 0 ∷ 0 ∷ [])) skip_fallback)
    ∷ not (has none (notar 1)) ∷ not (has none skip) ∷ eqb none.fallback1 0 ∷ eqb none.fallback2 0 ∷ eqb none.fallback3 0
    ∷ not (has none skip_fallback) ∷ not (has none final)
    ∷ not (has others (notar 1)) ∷ has others skip ∷ not (has others (notar_fallback 1)) ∷ not (has others skip_fallback) ∷ has others final ∷ [])

corners_of_deeds : T (all (sending ∷ leaving ∷ dying ∷ reading ∷ []))
unfolding rules after_deed after_deeds dies_in all_told in_order all_in_order
corners_of_deeds = tt
