-- Computed cases of the tally card: what each vote adds, ties, a leader overtaken, refusals, and 17.
use Rattle.std.specs.Prelude.{Bool, not, ◌&&◌, List, [], ◌∷◌, ◌++◌, ℕ, suc, replicate, T}
use Rattle.rulebook.specs.declared.Input.{Input}
use Rattle.rulebook.specs.PaperNumbers.{step_panel}
use Rattle.rulebook.specs.Tools.{all_to}
use Rattle.rulebook.specs.Weights.{last_slot}
use Rattle.rulebook.specs.Ledger.{Ledger, card_of, row_at, put_card}
use Rattle.rulebook.specs.Cards.{recount}
use Rattle.rulebook.specs.Inputs.{intake, feed}
use Rattle.rulebook.specs.WellFormed.{card_fits, well_formed, step}
use Rattle.rulebook.specs.Scripts.{vote, block, timeout, look, votes, answers, after, stored, all_armed, ring, equal, equals, all}
use Rattle.rulebook.specs.Bench.{alone}
use Rattle.rulebook.specs.Computes.{rules}

-- A slot's card as five numbers: skip, final, skip certificate, leading block, its weight.
abbrev card : Ledger → ℕ → List ℕ
card l s = let t = (row_at l s).card in t.skip.0 ∷ t.finals.0 ∷ t.skipcert.0 ∷ t.leader ∷ t.weight.0 ∷ []

abbrev blank : List ℕ
blank = 0 ∷ 0 ∷ 0 ∷ 0 ∷ 0 ∷ []

-- A card with a leading block alone.
abbrev leading : ℕ → ℕ → List ℕ
leading b w = 0 ∷ 0 ∷ 0 ∷ b ∷ w ∷ []

-- The card of slot 1 after each of the inputs, put in as they stand, and with all that the node does with them.
abbrev cards : Ledger → List Input → List (List ℕ)
cards l [] = []
cards l (i ∷ is) = let m = (intake l i).ledger in card m 1 ∷ cards m is

abbrev fed_cards : Ledger → List Input → List (List ℕ)
fed_cards l [] = []
fed_cards l (i ∷ is) = let m = (feed l i).ledger in card m 1 ∷ fed_cards m is

-- Five nodes of stakes 1, 2, 2, 3 and 4; the own node, without a block or a timeout, casts nothing.
abbrev five : Ledger
five = ring (1 ∷ 2 ∷ 2 ∷ 3 ∷ 4 ∷ []) []

-- "lowest number on a tie": whichever of two blocks comes first; and a leader overtaken by more weight, not by less. Notar-fallbacks
-- weigh nothing here.
abbrev leaders : Bool
leaders =
    all (equals (cards five (vote 1 1 1 9 ∷ vote 1 2 1 7 ∷ vote 1 3 1 9 ∷ vote 1 4 1 8 ∷ [])) (leading 9 2 ∷ leading 7 2 ∷ leading 9 5 ∷ leading 9 5 ∷ [])
    ∷ equals (cards five (vote 1 2 1 7 ∷ vote 1 1 1 9 ∷ vote 2 4 1 9 ∷ [])) (leading 7 2 ∷ leading 7 2 ∷ leading 7 2 ∷ [])
    ∷ equals (cards five (vote 2 4 1 9 ∷ vote 1 1 1 9 ∷ vote 1 3 1 8 ∷ [])) (blank ∷ leading 9 2 ∷ leading 8 3 ∷ []) ∷ [])

-- A skip-fallback after the skip and one before it: the node's stake counts once in the skip certificate. Beside a notar vote it
-- counts there alone. Finals count by themselves.
abbrev weights : Bool
weights =
    equals (cards five (vote 3 1 1 0 ∷ vote 4 1 1 0 ∷ vote 4 2 1 0 ∷ vote 3 2 1 0 ∷ vote 5 3 1 0 ∷ vote 5 1 1 0 ∷ vote 1 4 1 7 ∷ vote 4 4 1 0 ∷ []))
    ((2 ∷ 0 ∷ 2 ∷ 0 ∷ 0 ∷ []) ∷ (2 ∷ 0 ∷ 2 ∷ 0 ∷ 0 ∷ []) ∷ (2 ∷ 0 ∷ 4 ∷ 0 ∷ 0 ∷ []) ∷ (4 ∷ 0 ∷ 4 ∷ 0 ∷ 0 ∷ []) ∷ (4 ∷ 3 ∷ 4 ∷ 0 ∷ 0 ∷ [])
    ∷ (4 ∷ 5 ∷ 4 ∷ 0 ∷ 0 ∷ []) ∷ (4 ∷ 5 ∷ 4 ∷ 7 ∷ 4 ∷ []) ∷ (4 ∷ 5 ∷ 8 ∷ 7 ∷ 4 ∷ []) ∷ [])

-- Own votes stand on the card: notar and final of one call, and the skips of a window. The next slot's card has nothing of them.
abbrev own : Bool
own =
    let voted = after alone (block 1 7 0 1 ∷ []) in
    let skipped = after alone (look ∷ timeout 1 ∷ []) in
    equals (card voted 1 ∷ card voted 2 ∷ card skipped 1 ∷ card skipped 4 ∷ card skipped 5 ∷ [])
    ((0 ∷ 5 ∷ 0 ∷ 7 ∷ 5 ∷ []) ∷ blank ∷ (5 ∷ 0 ∷ 5 ∷ 0 ∷ 0 ∷ []) ∷ (5 ∷ 0 ∷ 5 ∷ 0 ∷ 0 ∷ []) ∷ blank ∷ [])

-- A vote of a slot changes that slot's card alone.
abbrev slots : Bool
slots =
    let l = stored five (vote 3 1 2 0 ∷ vote 1 2 16 9 ∷ []) in
    equals (card l 1 ∷ card l 2 ∷ card l 3 ∷ card l 15 ∷ card l 16 ∷ []) (blank ∷ (2 ∷ 0 ∷ 2 ∷ 0 ∷ 0 ∷ []) ∷ blank ∷ blank ∷ leading 9 2 ∷ [])

-- Slot 1 with something on every line of its card, and blocks 7 and 9 in a tie.
abbrev full : Ledger
full = stored five (vote 1 1 1 9 ∷ vote 1 2 1 7 ∷ vote 3 3 1 0 ∷ vote 4 2 1 0 ∷ vote 5 4 1 0 ∷ [])

-- "in fresh and in refused cases too": votes refused with 7, 8, 6, 4, 3, 2 and 5 leave the card.
abbrev refused : Bool
refused =
    let bad : List Input =
    vote 1 1 1 9 ∷ vote 1 1 1 7 ∷ vote 3 1 1 0 ∷ vote 3 3 1 0 ∷ vote 1 0 1 9 ∷ vote 9 4 1 9 ∷ vote 3 4 17 0 ∷ vote 3 5 1 0 ∷ vote 1 4 1 0 ∷ vote 3 4 1 5 ∷ [] in
    equals (answers full bad) ((7 ∷ []) ∷ (8 ∷ []) ∷ (8 ∷ []) ∷ (7 ∷ []) ∷ (6 ∷ []) ∷ (4 ∷ []) ∷ (3 ∷ []) ∷ (2 ∷ []) ∷ (5 ∷ []) ∷ (5 ∷ []) ∷ [])
    && equals (fed_cards full bad) (replicate 10 (3 ∷ 4 ∷ 5 ∷ 7 ∷ 2 ∷ []))

-- Every card agrees with the recount after each of the inputs.
abbrev agree : Ledger → List Input → Bool
agree l [] = all_to last_slot (λ i. card_fits l (suc i))
agree l (i ∷ is) = all_to last_slot (λ n. card_fits l (suc n)) && agree (feed l i).ledger is

-- B4 and B5 of document 01 with five nodes for ten: the own final vote and the skips of a window, then own fallbacks for three blocks in a
-- tie; and skip-fallbacks after them.
abbrev along : Bool
along =
    let fifths = all_armed (ring (replicate 5 1) []) in
    agree fifths (block 1 7 0 1 ∷ votes 1 (1 ∷ 2 ∷ []) 1 7 ++ votes 3 (3 ∷ 4 ∷ []) 1 0)
    && agree fifths (timeout 1 ∷ vote 1 1 1 23 ∷ vote 1 2 1 22 ∷ vote 1 3 1 21 ∷ vote 3 4 1 0 ∷ votes 4 (3 ∷ 4 ∷ []) 1 0)

-- A recount whose leading block is not the lowest, nor the first or the last that is named: blocks 7, 9 and 8 with 2, 5 and 4. Fallbacks
-- alone lead nothing.
abbrev recounts : Bool
recounts =
    let l = stored five (vote 1 1 1 7 ∷ vote 1 2 1 9 ∷ vote 1 3 1 9 ∷ vote 1 4 1 8 ∷ vote 2 0 1 6 ∷ []) in
    let again = put_card l 1 (recount l 1) in
    let fallbacks = stored five (vote 2 1 1 7 ∷ vote 2 2 1 9 ∷ []) in
    equals (card l 1 ∷ card again 1 ∷ card (put_card fallbacks 1 (recount fallbacks 1)) 1 ∷ []) (leading 9 5 ∷ leading 9 5 ∷ blank ∷ []) && card_fits l 1

-- "A node record whose card disagrees with the recount is 17": each of its five words too low and too high, the other block of a tie, a leader without a
-- vote; in the first slot, in one without votes and in the last; and row 0's.
abbrev disagree : Bool
disagree =
    let spoiled : ℕ → ℕ → ℕ → ℕ → ℕ → ℕ → Ledger = (λ s x y z b w. put_card full s (card_of x y z b w)) in
    let agrees : ℕ → ℕ → ℕ → ℕ → ℕ → ℕ → Bool = (λ s x y z b w. card_fits (spoiled s x y z b w) s) in
    let unused : ℕ → ℕ → ℕ → ℕ → ℕ → Bool = (λ x y z b w. well_formed (spoiled 0 x y z b w)) in
    let number : Ledger → ℕ = (λ l. (step_panel (step l 480 look).answer).number) in
    all (agrees 1 3 4 5 7 2 ∷ not (agrees 1 2 4 5 7 2) ∷ not (agrees 1 4 4 5 7 2) ∷ not (agrees 1 3 3 5 7 2) ∷ not (agrees 1 3 5 5 7 2) ∷ not (agrees 1 3 4 4 7 2) ∷ not (agrees 1 3 4 6 7 2)
    ∷ not (agrees 1 3 4 5 6 2) ∷ not (agrees 1 3 4 5 9 2) ∷ not (agrees 1 3 4 5 7 1) ∷ not (agrees 1 3 4 5 7 4)
    ∷ not (agrees 1 3 4 5 0 0) ∷ agrees 2 0 0 0 0 0 ∷ not (agrees 2 1 0 0 0 0) ∷ not (agrees 2 0 0 0 7 0) ∷ not (agrees 2 0 0 0 0 1) ∷ not (agrees 16 0 1 0 0 0)
    ∷ not (unused 1 0 0 0 0) ∷ not (unused 0 1 0 0 0) ∷ not (unused 0 0 1 0 0) ∷ not (unused 0 0 0 1 0) ∷ not (unused 0 0 0 0 1) ∷ [])
    && equal (number full ∷ number (spoiled 1 3 4 5 9 2) ∷ number (spoiled 2 1 0 0 0 0) ∷ number (spoiled 16 0 1 0 0 0) ∷ []) (0 ∷ 17 ∷ 17 ∷ 17 ∷ [])

corners_of_cards : T (all (leaders ∷ weights ∷ own ∷ slots ∷ refused ∷ along ∷ recounts ∷ disagree ∷ []))
unfolding rules
corners_of_cards = tt
