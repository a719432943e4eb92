-- Computed cases of watchers: what one takes and tells, what it refuses, and the record that says that a node is one.
use Rattle.std.specs.Prelude.{Bool, not, ◌&&◌, List, [], ◌∷◌, ◌++◌, ℕ, length, T}
use Rattle.rulebook.specs.declared.Input.{Input}
use Rattle.rulebook.specs.PaperNumbers.{step_panel, verdict_number, write_panel}
use Rattle.rulebook.specs.Ledger.{Ledger, fresh, row_at, is_watcher, put_timed_out}
use Rattle.rulebook.specs.Inputs.{start_verdict, watch_verdict}
use Rattle.rulebook.specs.Taking.{of_packet, served}
use Rattle.rulebook.specs.Writers.{write_proof}
use Rattle.rulebook.specs.WellFormed.{well_formed, step}
use Rattle.rulebook.specs.Scripts.{vote, block, timeout, look, votes, answers, after, flatten, equal, equals, all, silent}
use Rattle.rulebook.specs.Computes.{rules}

-- A fresh watcher of a table with genesis 1.
abbrev watcher : List ℕ → Ledger
watcher stakes = fresh stakes (length stakes) 1

-- B1's node watched: the block arms the window and gets no vote; the vote of the only node, which a watcher takes as any other's, makes it final.
abbrev never_votes : Bool
never_votes =
    equals (answers (watcher (5 ∷ [])) (block 1 7 0 1 ∷ vote 1 0 1 7 ∷ vote 5 0 1 0 ∷ []))
    ((0 ∷ 7 ∷ 1 ∷ 0 ∷ []) ∷ (0 ∷ 6 ∷ 1 ∷ 7 ∷ []) ∷ (0 ∷ []) ∷ [])

-- Three skips and two votes for a block in slot 1, and the votes before the skips: a node whose skip is one of them falls back, a watcher
-- tells nothing.
abbrev no_fallback : Bool
no_fallback =
    let fifths : List ℕ = 1 ∷ 1 ∷ 1 ∷ 1 ∷ 1 ∷ [] in
    let watched : List Input → List (List ℕ) = (λ is. answers (watcher fifths) (look ∷ is)) in
    let voting : List Input → List (List ℕ) = (λ is. answers (after (fresh fifths 0 1) (look ∷ timeout 1 ∷ [])) is) in
    let falls : List ℕ = 0 ∷ 2 ∷ 1 ∷ 7 ∷ [] in
    let for7 : List Input = votes 1 (3 ∷ 4 ∷ []) 1 7 in
    let armed : List ℕ = 0 ∷ 7 ∷ 1 ∷ 0 ∷ [] in
    equals (watched (votes 3 (0 ∷ 1 ∷ 2 ∷ []) 1 0 ++ for7) ++ watched (for7 ++ votes 3 (0 ∷ 1 ∷ 2 ∷ []) 1 0)) ((armed ∷ silent 5) ++ (armed ∷ silent 5))
    && equals (voting (votes 3 (1 ∷ 2 ∷ []) 1 0 ++ for7) ++ voting (for7 ++ votes 3 (1 ∷ 2 ∷ []) 1 0)) ((silent 2 ++ (falls ∷ silent 1)) ++ (silent 1 ++ (falls ∷ silent 2)))

-- A final block's parent is final too, whichever comes last.
abbrev walks : Bool
walks =
    equals (answers (watcher (5 ∷ [])) (vote 1 0 2 9 ∷ block 1 7 0 1 ∷ block 2 9 1 7 ∷ []))
    ((0 ∷ 7 ∷ 1 ∷ 0 ∷ 6 ∷ 2 ∷ 9 ∷ []) ∷ (0 ∷ []) ∷ (0 ∷ 6 ∷ 1 ∷ 7 ∷ []) ∷ [])

-- "Timeouts are refused with 4, right after 17 and 9", whatever the slot; refused ones are not kept. A mark that stands in the record is in
-- range, and changes nothing of it.
abbrev timeouts : Bool
timeouts =
    let l = after (watcher (5 ∷ [])) (look ∷ []) in
    let marks : Ledger → List ℕ = (λ m. (row_at (step m 480 (timeout 1)).ledger 1).timed_out ∷ (row_at (step m 480 (timeout 1)).ledger 2).timed_out ∷ []) in
    let number : Ledger → ℕ → Input → ℕ = (λ m room i. (step_panel (step m room i).answer).number) in
    equal (number (put_timed_out l 0) 0 (timeout 1) ∷ number l 479 (timeout 1) ∷ number l 480 (timeout 1) ∷ number l 480 (timeout 0) ∷ number l 480 (timeout 17) ∷ number l 480 look ∷ number (put_timed_out l 1) 480 (timeout 1) ∷ number (put_timed_out l 1) 480 look ∷ [])
    (17 ∷ 9 ∷ 4 ∷ 4 ∷ 4 ∷ 0 ∷ 4 ∷ 0 ∷ [])
    && equals (marks l ∷ marks (put_timed_out l 2) ∷ []) ((0 ∷ 0 ∷ []) ∷ (0 ∷ 1 ∷ []) ∷ [])

-- "6 is never given": votes in any node's name, 2 for a number past the table, the watcher's own place among them.
abbrev any_name : Bool
any_name =
    equals (answers (watcher (1 ∷ 1 ∷ 1 ∷ [])) (vote 3 0 1 0 ∷ vote 3 2 1 0 ∷ vote 3 3 1 0 ∷ vote 3 0 1 0 ∷ []))
    ((0 ∷ 7 ∷ 1 ∷ 0 ∷ []) ∷ (0 ∷ []) ∷ (2 ∷ []) ∷ (7 ∷ []) ∷ [])

-- A certificate from another firm makes a block final, and "writers work": its proof is written with the kept masks.
abbrev takes : Bool
takes =
    let f = served (watcher (1 ∷ 3 ∷ 1 ∷ [])) (of_packet (1 ∷ 2 ∷ 7 ∷ 6 ∷ 0 ∷ [])) in
    let w = write_proof f.ledger 64 2 7 in
    equal (flatten f.records) (7 ∷ 1 ∷ 0 ∷ 6 ∷ 2 ∷ 7 ∷ []) && equal ((write_panel w.answer).number ∷ w.bytes) (0 ∷ 1 ∷ 2 ∷ 7 ∷ 6 ∷ 0 ∷ [])

-- The number after the last says that a node is a watcher; 0 is a node's number, and a larger number is 17. A start with it is 1; a watcher's
-- start asks for stakes that fit and a genesis, whichever it is.
abbrev records : Bool
records =
    let stakes : List ℕ = 1 ∷ 1 ∷ 1 ∷ [] in
    all (is_watcher (fresh stakes 3 1) ∷ not (is_watcher (fresh stakes 0 1)) ∷ not (is_watcher (fresh stakes 2 1)) ∷ well_formed (fresh stakes 3 1) ∷ not (well_formed (fresh stakes 4 1)) ∷ not (well_formed (fresh stakes 9 1))
    ∷ well_formed (fresh stakes 3 9) ∷ [])
    && equal (verdict_number (start_verdict stakes 3 1) ∷ verdict_number (watch_verdict stakes 1) ∷ verdict_number (watch_verdict stakes 0) ∷ verdict_number (watch_verdict [] 1) ∷ verdict_number (watch_verdict (1 ∷ 0 ∷ []) 1) ∷ verdict_number (watch_verdict stakes 9) ∷ [])
    (1 ∷ 0 ∷ 1 ∷ 1 ∷ 1 ∷ 0 ∷ [])

corners_of_watchers : T (all (never_votes ∷ no_fallback ∷ walks ∷ timeouts ∷ any_name ∷ takes ∷ records ∷ []))
unfolding rules
corners_of_watchers = tt
