-- Computed cases of trays: a refused vote in the middle, the own name, a repeat, a part at the end, the empty run.
use Rattle.std.specs.Prelude.{Bool, ◌&&◌, List, [], ◌∷◌, ◌++◌, ℕ, T}
use Rattle.rulebook.specs.PaperNumbers.{step_panel}
use Rattle.rulebook.specs.Ledger.{Ledger, fresh}
use Rattle.rulebook.specs.Scripts.{flatten, told, equal, equals, all}
use Rattle.rulebook.specs.Computes.{rules}
use Rattle.tray_rules.specs.Trays.{Tray, votes_in, serve, tray_refused, tray_served, tray}

-- A fresh node of stakes 4, 3, 3.
abbrev three : Ledger
three = fresh (4 ∷ 3 ∷ 3 ∷ []) 0 1

-- The panel's number and value, the votes' numbers, and the records.
abbrev shown : Tray → List (List ℕ)
shown t =
    ((step_panel t.answer).number ∷ (step_panel t.answer).values) ∷ t.served.numbers ∷ flatten t.served.records ∷ []

-- A tray that is refused with a number.
abbrev refused_with : ℕ → List (List ℕ)
refused_with n = (n ∷ 0 ∷ []) ∷ [] ∷ [] ∷ []

-- A vote of node 1; one under the own name; node 1's final vote; the first vote again; node 2's vote; another of node 2; node 2's
-- final vote.
abbrev mixed : List ℕ
mixed =
    (1 ∷ 1 ∷ 1 ∷ 7 ∷ []) ++ (1 ∷ 0 ∷ 1 ∷ 7 ∷ []) ++ (5 ∷ 1 ∷ 1 ∷ 0 ∷ []) ++ (1 ∷ 1 ∷ 1 ∷ 7 ∷ []) ++ (1 ∷ 2 ∷ 1 ∷ 7 ∷ [])
    ++ (1 ∷ 2 ∷ 1 ∷ 8 ∷ []) ++ (5 ∷ 2 ∷ 1 ∷ 0 ∷ [])

-- The first vote arms the window, the last makes block 7 final; the refused votes between them end nothing. A longer outbox and more
-- places for answers than votes change nothing.
abbrev middle : Bool
middle =
    let whole : List (List ℕ) = (0 ∷ 2 ∷ []) ∷ (0 ∷ 6 ∷ 0 ∷ 7 ∷ 0 ∷ 8 ∷ 0 ∷ []) ∷ (7 ∷ 1 ∷ 0 ∷ 6 ∷ 1 ∷ 7 ∷ []) ∷ [] in
    all (equals (shown (tray three 480 7 mixed)) whole ∷ equals (shown (tray three 481 7 mixed)) whole ∷ equals (shown (tray three 480 9 mixed)) whole ∷ [])

-- An empty run needs no place for answers and runs no rule: the look after it arms the window.
abbrev empty : Bool
empty =
    let t = tray three 480 0 [] in
    equals (shown t) ((0 ∷ 0 ∷ []) ∷ [] ∷ [] ∷ []) && equal (told t.served.ledger) (7 ∷ 1 ∷ 0 ∷ [])

-- 17, then 9 for either buffer, then 12; each tray is wrong in every later way too. A part alone asks for no place.
abbrev order : Bool
order =
    let part : List ℕ = 1 ∷ 1 ∷ 1 ∷ 7 ∷ 1 ∷ [] in
    all (equals (shown (tray (fresh (4 ∷ 3 ∷ 3 ∷ []) 4 1) 479 0 part)) (refused_with 17)
    ∷ equals (shown (tray three 479 1 part)) (refused_with 9)
    ∷ equals (shown (tray three 480 0 part)) (refused_with 9)
    ∷ equals (shown (tray three 480 6 mixed)) (refused_with 9)
    ∷ equals (shown (tray three 480 4 (part ++ (part ++ (part ++ part))))) (refused_with 9)
    ∷ equals (shown (tray three 480 1 part)) (refused_with 12)
    ∷ equals (shown (tray three 480 0 (1 ∷ 1 ∷ 1 ∷ []))) (refused_with 12) ∷ [])

corners_of_trays : T (all (middle ∷ empty ∷ order ∷ []))
unfolding rules votes_in serve tray_refused tray_served tray
corners_of_trays = tt
