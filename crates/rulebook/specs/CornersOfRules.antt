-- Computed cases of the voting rules, where B1 to B10 cannot tell two rule books apart.
use Rattle.std.specs.Prelude.{Bool, true, false, not, ◌&&◌, List, [], ◌∷◌, ◌++◌, ℕ, ◌+◌, ◌-◌, T}
use Rattle.rulebook.specs.declared.Cell.{Cell}
use Rattle.rulebook.specs.declared.Input.{Input}
use Rattle.rulebook.specs.declared.CertificateKind.{CertificateKind}
use Rattle.rulebook.specs.declared.CertificateKind.TheVariants as certificate
use Rattle.rulebook.specs.Tools.{choose}
use Rattle.rulebook.specs.Weights.{is_first, window_of, first_of}
use Rattle.rulebook.specs.Ledger.{Ledger, no_cell, put_armed, put_final, fresh}
use Rattle.rulebook.specs.Pool.{held, ready}
use Rattle.rulebook.specs.Rules.{State, rule_a, rule_b, rule_c, rule_d, rule_e, rule_f}
use Rattle.rulebook.specs.Inputs.{feed}
use Rattle.rulebook.specs.WellFormed.{well_formed}
use Rattle.rulebook.specs.Scripts.{vote, block, timeout, look, votes, flatten, answers, stored, told, told_by, later_armed, all_armed, cell, ring, equal, equals, all}
use Rattle.rulebook.specs.Bench.{alone}
use Rattle.rulebook.specs.Computes.{rules}

-- ---- rings whose stakes are tenths of the total

abbrev notar : ℕ → Cell
notar b = cell b 0 0 0 0 0 0

abbrev skip : Cell
skip = cell 0 1 0 0 0 0 0

abbrev fallback : ℕ → Cell
fallback b = cell 0 0 b 0 0 0 0

-- A notar vote and a final vote.
abbrev notar_final : ℕ → Cell
notar_final b = cell b 0 0 0 0 0 1

-- The ring with its windows armed.
abbrev armed : List ℕ → List Cell → Ledger
armed stakes cells = all_armed (ring stakes cells)

-- The own node's skips in a list of slots.
abbrev own_skips : List ℕ → List Input
own_skips [] = []
own_skips (s ∷ ss) = vote 3 0 s 0 ∷ own_skips ss

-- Armed, and skipped by the own node in slots 2 to 4, so that D and E cast no skip.
abbrev closed : List ℕ → List Cell → Ledger
closed stakes cells = stored (armed stakes cells) (own_skips (2 ∷ 3 ∷ 4 ∷ []))

-- The ledger with another total.
abbrev with_total : Ledger → ℕ → Ledger
with_total l t =
    record { count = l.count; total = t; own = l.own; genesis = l.genesis; armed = l.armed; stakes = l.stakes; rows = l.rows }

-- ---- the order of the rules in a slot: A before B and C, B before F, C before D before E before F; B1 has A before B

abbrev AbeforeC : Bool
AbeforeC = equal (told (later_armed (ring (6 ∷ 4 ∷ []) (notar 7 ∷ no_cell ∷ [])))) (7 ∷ 1 ∷ 0 ∷ 5 ∷ 1 ∷ 0 ∷ 6 ∷ 1 ∷ 7 ∷ [])

abbrev BbeforeF : Bool
BbeforeF =
    equal (told (stored (armed (1 ∷ 8 ∷ 1 ∷ []) (no_cell ∷ notar 7 ∷ no_cell ∷ [])) (block 1 7 0 1 ∷ [])))
    (1 ∷ 1 ∷ 7 ∷ 5 ∷ 1 ∷ 0 ∷ 6 ∷ 1 ∷ 7 ∷ [])

-- D's skips are cast beside the own final, its fallback is not.
abbrev CbeforeD : Bool
CbeforeD =
    equal (told (armed (1 ∷ 5 ∷ 4 ∷ []) (notar 7 ∷ notar 7 ∷ notar 8 ∷ [])))
    (5 ∷ 1 ∷ 0 ∷ 3 ∷ 2 ∷ 0 ∷ 3 ∷ 3 ∷ 0 ∷ 3 ∷ 4 ∷ 0 ∷ [])

-- Skips before the fallbacks, the lower block first whichever node names it, and E after an own notar-fallback.
abbrev DbeforeE : Bool
DbeforeE =
    let l = armed (1 ∷ 4 ∷ 4 ∷ 1 ∷ []) (no_cell ∷ notar 9 ∷ notar 8 ∷ no_cell ∷ []) in
    equals (answers l (block 1 7 0 1 ∷ []))
    ((0 ∷ 1 ∷ 1 ∷ 7 ∷ 3 ∷ 2 ∷ 0 ∷ 3 ∷ 3 ∷ 0 ∷ 3 ∷ 4 ∷ 0 ∷ 2 ∷ 1 ∷ 8 ∷ 2 ∷ 1 ∷ 9 ∷ 4 ∷ 1 ∷ 0 ∷ []) ∷ [])

abbrev EbeforeF : Bool
EbeforeF =
    equal (told (armed (1 ∷ 5 ∷ 4 ∷ []) (notar_final 7 ∷ notar_final 7 ∷ skip ∷ []))) (3 ∷ 2 ∷ 0 ∷ 3 ∷ 3 ∷ 0 ∷ 3 ∷ 4 ∷ 0 ∷ 6 ∷ 1 ∷ 7 ∷ [])

-- ---- the order of the slots

-- An own notar in slot 3 alone: C, then E's skips enable D in slot 1, which comes before F in slot 3, since the rules start again from slot 1.
abbrev restart : Bool
restart =
    equal (told (stored (armed (1 ∷ 4 ∷ 1 ∷ 4 ∷ []) []) (vote 1 1 1 9 ∷ votes 1 (0 ∷ 1 ∷ 2 ∷ []) 3 7 ++ (vote 3 3 3 0 ∷ votes 5 (1 ∷ 2 ∷ 3 ∷ []) 3 0))))
    (5 ∷ 3 ∷ 0 ∷ 3 ∷ 1 ∷ 0 ∷ 3 ∷ 2 ∷ 0 ∷ 3 ∷ 4 ∷ 0 ∷ 2 ∷ 1 ∷ 9 ∷ 6 ∷ 3 ∷ 7 ∷ [])

-- E in slot 2 skips slot 1, where D then falls back before F in slot 3, whose block was final all along.
abbrev restart_lower : Bool
restart_lower =
    equal (told (stored (armed (1 ∷ 4 ∷ 1 ∷ 4 ∷ []) []) (vote 1 1 1 9 ∷ vote 1 0 2 7 ∷ vote 3 1 2 0 ∷ votes 1 (1 ∷ 3 ∷ []) 3 7)))
    (3 ∷ 1 ∷ 0 ∷ 3 ∷ 3 ∷ 0 ∷ 3 ∷ 4 ∷ 0 ∷ 4 ∷ 2 ∷ 0 ∷ 2 ∷ 1 ∷ 9 ∷ 6 ∷ 3 ∷ 7 ∷ [])

-- Two final blocks, both unreported, one of them in the last slot.
abbrev slots_ascend : Bool
slots_ascend =
    equal (told (stored (armed (1 ∷ 8 ∷ 1 ∷ []) []) (vote 1 1 16 11 ∷ vote 1 1 2 9 ∷ []))) (6 ∷ 2 ∷ 9 ∷ 6 ∷ 16 ∷ 11 ∷ [])

-- ---- slots, windows and parents

abbrev sixteen : List ℕ
sixteen = 1 ∷ 2 ∷ 3 ∷ 4 ∷ 5 ∷ 6 ∷ 7 ∷ 8 ∷ 9 ∷ 10 ∷ 11 ∷ 12 ∷ 13 ∷ 14 ∷ 15 ∷ 16 ∷ []

-- Of each slot whether it is a first one, its window, and the window's first slot.
abbrev windows_of : List ℕ → List (List ℕ)
windows_of [] = []
windows_of (s ∷ ss) = (choose (is_first s) 1 0 ∷ window_of s ∷ first_of s ∷ []) ∷ windows_of ss

-- "Slots 1 to 16, windows of 4: first slots 1, 5, 9, 13."
abbrev windows_of_four : Bool
windows_of_four =
    equals (windows_of sixteen)
    ((1 ∷ 0 ∷ 1 ∷ []) ∷ (0 ∷ 0 ∷ 1 ∷ []) ∷ (0 ∷ 0 ∷ 1 ∷ []) ∷ (0 ∷ 0 ∷ 1 ∷ []) ∷ (1 ∷ 1 ∷ 5 ∷ []) ∷ (0 ∷ 1 ∷ 5 ∷ []) ∷ (0 ∷ 1 ∷ 5 ∷ []) ∷ (0 ∷ 1 ∷ 5 ∷ [])
    ∷ (1 ∷ 2 ∷ 9 ∷ []) ∷ (0 ∷ 2 ∷ 9 ∷ []) ∷ (0 ∷ 2 ∷ 9 ∷ []) ∷ (0 ∷ 2 ∷ 9 ∷ []) ∷ (1 ∷ 3 ∷ 13 ∷ []) ∷ (0 ∷ 3 ∷ 13 ∷ []) ∷ (0 ∷ 3 ∷ 13 ∷ []) ∷ (0 ∷ 3 ∷ 13 ∷ []) ∷ [])

-- A node alone: the windows of slots 5, 9 and 13 are armed by a block of the slot before; equal numbers in several slots, genesis's among them.
abbrev next_door : Bool
next_door =
    let before : ℕ → List ℕ = (λ s. told_by rule_a s (stored alone (vote 1 0 (s - 1) 7 ∷ []))) in
    equals (before 5 ∷ before 9 ∷ before 13 ∷ []) ((7 ∷ 5 ∷ 0 ∷ []) ∷ (7 ∷ 9 ∷ 0 ∷ []) ∷ (7 ∷ 13 ∷ 0 ∷ []) ∷ [])
    && equals (answers (all_armed alone) (block 1 1 0 1 ∷ block 2 1 1 1 ∷ []))
    ((0 ∷ 1 ∷ 1 ∷ 1 ∷ 5 ∷ 1 ∷ 0 ∷ 6 ∷ 1 ∷ 1 ∷ []) ∷ (0 ∷ 1 ∷ 2 ∷ 1 ∷ 5 ∷ 2 ∷ 0 ∷ 6 ∷ 2 ∷ 1 ∷ []) ∷ [])

-- The same node, timeout after timeout: genesis is a ready parent of every window, and in the last a block of slot 1 is not.
abbrev sixteen_skips : Bool
sixteen_skips =
    equals (answers alone (look ∷ timeout 1 ∷ timeout 5 ∷ timeout 9 ∷ block 13 7 1 9 ∷ timeout 13 ∷ timeout 16 ∷ []))
    ((0 ∷ 7 ∷ 1 ∷ 0 ∷ []) ∷ (0 ∷ 3 ∷ 1 ∷ 0 ∷ 3 ∷ 2 ∷ 0 ∷ 3 ∷ 3 ∷ 0 ∷ 3 ∷ 4 ∷ 0 ∷ 7 ∷ 5 ∷ 0 ∷ [])
    ∷ (0 ∷ 3 ∷ 5 ∷ 0 ∷ 3 ∷ 6 ∷ 0 ∷ 3 ∷ 7 ∷ 0 ∷ 3 ∷ 8 ∷ 0 ∷ 7 ∷ 9 ∷ 0 ∷ []) ∷ (0 ∷ 3 ∷ 9 ∷ 0 ∷ 3 ∷ 10 ∷ 0 ∷ 3 ∷ 11 ∷ 0 ∷ 3 ∷ 12 ∷ 0 ∷ 7 ∷ 13 ∷ 0 ∷ [])
    ∷ (0 ∷ []) ∷ (0 ∷ 3 ∷ 13 ∷ 0 ∷ 3 ∷ 14 ∷ 0 ∷ 3 ∷ 15 ∷ 0 ∷ 3 ∷ 16 ∷ 0 ∷ []) ∷ (0 ∷ []) ∷ [])

-- Node 1's skips in a list of slots.
abbrev skips : List ℕ → List Input
skips [] = []
skips (s ∷ ss) = vote 3 1 s 0 ∷ skips ss

-- A parent in slot 1 for slot 13, with slots 2 to 12 skipped, or one of them not; B asks for the kept block's own parent.
abbrev far_parent : Bool
far_parent =
    let l = stored (ring (4 ∷ 6 ∷ []) (no_cell ∷ notar 7 ∷ [])) (skips (2 ∷ 3 ∷ 4 ∷ 5 ∷ 6 ∷ 7 ∷ 8 ∷ 9 ∷ 10 ∷ 12 ∷ [])) in
    let all = stored l (vote 3 1 11 0 ∷ []) in
    let last_open : Ledger → Ledger = (λ m. put_armed (put_armed (put_armed m 1) 5) 9) in
    equals (told (stored (last_open l) (block 13 30 1 7 ∷ [])) ∷ told (stored all (block 13 30 1 7 ∷ [])) ∷ told (stored (last_open all) (block 13 30 1 8 ∷ [])) ∷ [])
    ([] ∷ (7 ∷ 1 ∷ 0 ∷ 7 ∷ 5 ∷ 0 ∷ 7 ∷ 9 ∷ 0 ∷ 7 ∷ 13 ∷ 0 ∷ 1 ∷ 13 ∷ 30 ∷ []) ∷ (7 ∷ 13 ∷ 0 ∷ []) ∷ [])

-- A block that fallback votes alone name is a parent, in each of a cell's places; a block of the slot itself, or of one above it, is none.
abbrev parents : Bool
parents =
    let arms : Cell → Cell → List ℕ = (λ c d. told_by rule_a 5 (stored (ring (4 ∷ 3 ∷ 3 ∷ []) (no_cell ∷ c ∷ d ∷ [])) (votes 3 (1 ∷ 2 ∷ []) 2 0 ++ (votes 3 (1 ∷ 2 ∷ []) 3 0 ++ votes 3 (1 ∷ 2 ∷ []) 4 0)))) in
    let l = stored (ring (4 ∷ 6 ∷ []) (no_cell ∷ notar 7 ∷ [])) (vote 1 1 2 7 ∷ []) in
    equals (arms (fallback 9) (fallback 9) ∷ arms (cell 0 0 21 9 0 0 0) (cell 0 0 22 9 0 0 0) ∷ arms (cell 0 0 21 22 9 0 0) (cell 0 0 23 24 9 0 0)
    ∷ arms (notar 9) (cell 8 0 21 22 9 0 0) ∷ arms (fallback 9) (fallback 8) ∷ [])
    ((7 ∷ 5 ∷ 0 ∷ []) ∷ (7 ∷ 5 ∷ 0 ∷ []) ∷ (7 ∷ 5 ∷ 0 ∷ []) ∷ (7 ∷ 5 ∷ 0 ∷ []) ∷ [] ∷ [])
    && all (not (ready l 1 1 7) ∷ not (ready l 1 2 7) ∷ [])

-- A parent is ready where it was certified, by notar votes or fallbacks: not by final votes, nor in the slot above, nor where its number
-- names a slot or its slot a number. Block 7 in slot 1, 2 in slot 4 and 4 in slot 5; both nodes' finals in slot 2.
abbrev parents_apart : Bool
parents_apart =
    let l = stored (ring (4 ∷ 6 ∷ []) []) (vote 1 1 1 7 ∷ vote 5 0 2 0 ∷ vote 5 1 2 0 ∷ vote 1 1 4 2 ∷ vote 1 1 5 4 ∷ []) in
    all (ready l 2 1 7 ∷ not (ready l 3 2 7) ∷ not (ready l 3 2 4) ∷ ready l 5 4 2 ∷ ready l 6 5 4 ∷ [])

-- Off a window's first slot the parent stands in the slot before, and the own vote there is for it; equal numbers in several slots are
-- told apart.
abbrev chain : Bool
chain =
    let l = later_armed (ring (1 ∷ 9 ∷ []) []) in
    equals (answers l (block 2 8 1 7 ∷ block 3 9 1 7 ∷ block 1 7 0 1 ∷ []))
    ((0 ∷ 7 ∷ 1 ∷ 0 ∷ []) ∷ (0 ∷ []) ∷ (0 ∷ 1 ∷ 1 ∷ 7 ∷ 1 ∷ 2 ∷ 8 ∷ []) ∷ [])
    && equals (answers l (block 1 7 0 1 ∷ block 2 7 1 7 ∷ block 3 9 1 7 ∷ block 4 9 3 9 ∷ []))
    ((0 ∷ 7 ∷ 1 ∷ 0 ∷ 1 ∷ 1 ∷ 7 ∷ []) ∷ (0 ∷ 1 ∷ 2 ∷ 7 ∷ []) ∷ (0 ∷ []) ∷ (0 ∷ []) ∷ [])

-- What B casts for block 9 in each slot of a list, where the own vote in the slot before is notar for 7: with the parent (s - 1, 7), and
-- with the parent 7 one slot lower or 8 in the slot before.
abbrev followed : List ℕ → List (List ℕ)
followed [] = []
followed (s ∷ ss) =
    let cast : ℕ → ℕ → List ℕ = (λ p x. told_by rule_b s (stored (armed (1 ∷ 9 ∷ []) []) (vote 1 0 (s - 1) 7 ∷ block s 9 p x ∷ []))) in
    (cast (s - 1) 7 ++ (cast (s - 2) 7 ++ cast (s - 1) 8)) ∷ followed ss

-- A notar vote for 9 in each slot of a list.
abbrev nines : List ℕ → List (List ℕ)
nines [] = []
nines (s ∷ ss) = (1 ∷ s ∷ 9 ∷ []) ∷ nines ss

-- In every slot that is not a window's first, and in several windows; in a first slot the own vote in the slot before is not enough.
abbrev inside_windows : Bool
inside_windows =
    let inside : List ℕ = 2 ∷ 3 ∷ 4 ∷ 6 ∷ 7 ∷ 8 ∷ 10 ∷ 11 ∷ 12 ∷ 14 ∷ 15 ∷ 16 ∷ [] in
    equals (followed inside) (nines inside) && equals (followed (5 ∷ 9 ∷ 13 ∷ [])) ([] ∷ [] ∷ [] ∷ [])

-- Blocks certified inside a window that is not armed arm nothing: A asks in first slots alone, and no parent is ready for slot 5.
abbrev not_armed_inside : Bool
not_armed_inside =
    let l = stored (ring (4 ∷ 6 ∷ []) []) (vote 1 1 5 7 ∷ vote 1 1 6 8 ∷ []) in
    equals (told l ∷ told_by rule_a 5 l ∷ told_by rule_a 6 l ∷ told_by rule_a 7 l ∷ []) ((7 ∷ 1 ∷ 0 ∷ []) ∷ [] ∷ [] ∷ [] ∷ [])

-- Genesis has any number: the parent that is ready in slot 0 is that one.
abbrev other_genesis : Bool
other_genesis =
    let l = fresh (5 ∷ []) 0 9 in
    equals (answers l (block 1 7 0 9 ∷ [])) ((0 ∷ 7 ∷ 1 ∷ 0 ∷ 1 ∷ 1 ∷ 7 ∷ 5 ∷ 1 ∷ 0 ∷ 6 ∷ 1 ∷ 7 ∷ []) ∷ [])
    && all (ready l 1 0 9 ∷ not (ready l 1 0 1) ∷ not (ready l 1 0 8) ∷ not (ready l 1 0 10) ∷ [])

-- Node 0's notar votes for 7 in a list of slots, and the records that make 7 final in them.
abbrev sevens : List ℕ → List Input
sevens [] = []
sevens (s ∷ ss) = vote 1 0 s 7 ∷ sevens ss

abbrev sixes : List ℕ → List ℕ
sixes [] = []
sixes (s ∷ ss) = 6 ∷ s ∷ 7 ∷ sixes ss

-- Twenty rules in one call, of a watcher of one node: a block is final in each of the sixteen slots, and each window's first slot has a
-- ready parent.
abbrev many_rules : Bool
many_rules =
    let window : ℕ → List ℕ = (λ s. 7 ∷ s ∷ 0 ∷ sixes (s ∷ (s + 1) ∷ (s + 2) ∷ (s + 3) ∷ [])) in
    equal (told (stored (fresh (5 ∷ []) 1 1) (sevens sixteen))) (window 1 ++ (window 5 ++ (window 9 ++ window 13)))

-- A timeout for a slot with an own initial vote casts nothing; another slot of the window is taken on its own.
abbrev timeouts : Bool
timeouts =
    equals (answers (later_armed (ring (1 ∷ 9 ∷ []) [])) (block 1 7 0 1 ∷ timeout 1 ∷ timeout 2 ∷ timeout 2 ∷ []))
    ((0 ∷ 7 ∷ 1 ∷ 0 ∷ 1 ∷ 1 ∷ 7 ∷ []) ∷ (0 ∷ []) ∷ (0 ∷ 3 ∷ 2 ∷ 0 ∷ 3 ∷ 3 ∷ 0 ∷ 3 ∷ 4 ∷ 0 ∷ []) ∷ (7 ∷ []) ∷ [])

-- ---- certificates held: the weights of the votes of each kind, at the threshold and one below

abbrev holds : CertificateKind → ℕ → ℕ → List Cell → Bool
holds k w b cells = held (ring (w ∷ (10 - w) ∷ []) cells) k 1 b && not (held (ring ((w - 1) ∷ (11 - w) ∷ []) cells) k 1 b)

abbrev thresholds : Bool
thresholds =
    let two : CertificateKind → List Cell → Bool = (λ k cells. held (ring (3 ∷ 3 ∷ 4 ∷ []) cells) k 1 7) in
    all (holds certificate.FastFinal 8 7 (notar 7 ∷ notar 8 ∷ []) ∷ holds certificate.Notar 6 7 (notar 7 ∷ fallback 7 ∷ [])
    ∷ holds certificate.NotarFallback 6 7 (fallback 7 ∷ notar 8 ∷ []) ∷ holds certificate.Skip 6 0 (skip ∷ notar 7 ∷ [])
    ∷ holds certificate.Final 6 0 (cell 0 0 0 0 0 0 1 ∷ skip ∷ []) ∷ two certificate.NotarFallback (notar 7 ∷ fallback 7 ∷ no_cell ∷ [])
    ∷ two certificate.Skip (skip ∷ cell 8 0 0 0 0 1 0 ∷ no_cell ∷ []) ∷ not (two certificate.NotarFallback (cell 7 0 7 0 0 0 0 ∷ no_cell ∷ no_cell ∷ [])) ∷ [])

-- ---- C to F: what each asks, and what it does not ask

-- C asks for the own notar's kind 2, no own fallback of either kind, no own final.
abbrev final_votes : Bool
final_votes =
    let own : Cell → Cell → List ℕ = (λ c d. told_by rule_c 1 (closed (1 ∷ 5 ∷ 4 ∷ []) (c ∷ d ∷ no_cell ∷ []))) in
    equals (own (notar 7) (notar 7) ∷ own (notar 7) (fallback 7) ∷ own (cell 7 0 9 0 0 0 0) (notar 7) ∷ own (cell 7 0 0 0 0 1 0) (notar 7) ∷ own (notar_final 7) (notar 7) ∷ [])
    ((5 ∷ 1 ∷ 0 ∷ []) ∷ [] ∷ [] ∷ [] ∷ [] ∷ [])

-- D by two fifths alone, and by one fifth with the skips, each not at one less; initial votes alone weigh; not without an own initial
-- vote, nor for its own block, nor beside an own final.
abbrev fallbacks : Bool
fallbacks =
    let cast : ℕ → ℕ → Cell → Cell → Cell → List ℕ = (λ own other a b c. told_by rule_d 1 (closed (own ∷ other ∷ (10 - own - other) ∷ []) (a ∷ b ∷ c ∷ []))) in
    equals (cast 1 4 skip (notar 8) no_cell ∷ cast 1 3 skip (notar 8) (fallback 8) ∷ cast 4 2 skip (notar 8) no_cell ∷ cast 3 2 skip (notar 8) (cell 0 0 0 0 0 1 0)
    ∷ cast 5 1 skip (notar 8) no_cell ∷ cast 1 4 no_cell (notar 8) no_cell ∷ cast 1 4 (notar 8) (notar 8) no_cell ∷ cast 1 4 (notar 7) (notar 8) no_cell
    ∷ cast 1 4 (cell 7 0 0 0 0 1 0) (notar 8) no_cell ∷ cast 1 4 (cell 0 1 0 0 0 0 1) (notar 8) no_cell ∷ [])
    ((2 ∷ 1 ∷ 8 ∷ []) ∷ [] ∷ (2 ∷ 1 ∷ 8 ∷ []) ∷ [] ∷ [] ∷ [] ∷ [] ∷ (2 ∷ 1 ∷ 8 ∷ []) ∷ (2 ∷ 1 ∷ 8 ∷ []) ∷ [] ∷ [])

-- "unless already cast", whatever else was cast. At most three blocks have the weights: the tightest case, each with one fifth beside two
-- fifths of skip, and the record that it leaves is in range.
abbrev three_cast : Bool
three_cast =
    let own : Cell → List ℕ = (λ c. told_by rule_d 1 (closed (1 ∷ 4 ∷ 5 ∷ []) (c ∷ notar 24 ∷ no_cell ∷ []))) in
    let three = closed (1 ∷ 1 ∷ 1 ∷ 1 ∷ 1 ∷ []) (skip ∷ skip ∷ notar 23 ∷ notar 22 ∷ notar 21 ∷ []) in
    let f = feed three look in
    equals (own (cell 0 1 21 22 0 0 0) ∷ own (cell 0 1 21 24 0 0 0) ∷ flatten f.records ∷ [])
    ((2 ∷ 1 ∷ 24 ∷ []) ∷ [] ∷ (2 ∷ 1 ∷ 21 ∷ 2 ∷ 1 ∷ 22 ∷ 2 ∷ 1 ∷ 23 ∷ []) ∷ [])
    && well_formed f.ledger

-- D with its fallback cast and the window open: the skips alone. With a fallback for a block that has the slot's number: the one for 8.
-- E with the window open: the skips and the skip-fallback.
abbrev skips_beside_fallback : Bool
skips_beside_fallback =
    equals (told_by rule_d 1 (armed (1 ∷ 4 ∷ 5 ∷ []) (cell 0 1 8 0 0 0 0 ∷ notar 8 ∷ no_cell ∷ [])) ∷ told_by rule_d 1 (closed (1 ∷ 4 ∷ 5 ∷ []) (cell 0 1 1 0 0 0 0 ∷ notar 8 ∷ no_cell ∷ []))
    ∷ told_by rule_e 1 (armed (2 ∷ 4 ∷ 4 ∷ []) (notar 7 ∷ skip ∷ no_cell ∷ [])) ∷ [])
    ((3 ∷ 2 ∷ 0 ∷ 3 ∷ 3 ∷ 0 ∷ 3 ∷ 4 ∷ 0 ∷ []) ∷ (2 ∷ 1 ∷ 8 ∷ []) ∷ (3 ∷ 2 ∷ 0 ∷ 3 ∷ 3 ∷ 0 ∷ 3 ∷ 4 ∷ 0 ∷ 4 ∷ 1 ∷ 0 ∷ []) ∷ [])

-- Beside an own final D and E still cast the window's skips, whichever slot lacks an own initial vote. Asked in slot 6, the last
-- time: of slots 1 to 9 slot 5 alone lacks one.
abbrev skips_beside_final : Bool
skips_beside_final =
    let lacking : (State → ℕ → State) → Cell → Cell → List ℕ → List ℕ = (λ rule c d ss. told_by rule 1 (stored (armed (1 ∷ 4 ∷ 5 ∷ []) (c ∷ d ∷ no_cell ∷ [])) (own_skips ss))) in
    equals (lacking rule_d (cell 0 1 0 0 0 0 1) (notar 8) (2 ∷ 3 ∷ []) ∷ lacking rule_d (notar_final 7) (notar 8) (2 ∷ 3 ∷ []) ∷ lacking rule_e (notar_final 7) skip (2 ∷ 3 ∷ [])
    ∷ lacking rule_e (notar_final 7) skip (2 ∷ 4 ∷ []) ∷ lacking rule_e (notar_final 7) skip (3 ∷ 4 ∷ [])
    ∷ told_by rule_e 6 (stored (armed (1 ∷ 4 ∷ 5 ∷ []) []) (vote 1 0 6 7 ∷ vote 5 0 6 0 ∷ vote 3 1 6 0 ∷ own_skips (1 ∷ 2 ∷ 3 ∷ 4 ∷ 7 ∷ 8 ∷ 9 ∷ []))) ∷ [])
    ((3 ∷ 4 ∷ 0 ∷ []) ∷ (3 ∷ 4 ∷ 0 ∷ []) ∷ (3 ∷ 4 ∷ 0 ∷ []) ∷ (3 ∷ 3 ∷ 0 ∷ []) ∷ (3 ∷ 2 ∷ 0 ∷ []) ∷ (3 ∷ 5 ∷ 0 ∷ []) ∷ [])

-- E by two fifths, not at one less; initial votes alone weigh, also in the largest; after an own notar-fallback, not beside an own
-- skip, a second time or beside an own final.
abbrev skip_fallbacks : Bool
skip_fallbacks =
    let cast : ℕ → Cell → Cell → Cell → List ℕ = (λ other a b c. told_by rule_e 1 (closed (2 ∷ other ∷ (8 - other) ∷ []) (a ∷ b ∷ c ∷ []))) in
    equals (cast 4 (notar 7) skip no_cell ∷ cast 3 (notar 7) skip (cell 0 0 0 0 0 1 0) ∷ cast 4 (notar 7) (cell 0 1 7 0 0 0 0) no_cell ∷ cast 4 (cell 7 0 9 0 0 0 0) skip no_cell
    ∷ cast 4 skip skip no_cell ∷ cast 4 (cell 7 0 0 0 0 1 0) skip no_cell ∷ cast 4 (notar_final 7) skip no_cell ∷ cast 4 no_cell skip no_cell ∷ [])
    ((4 ∷ 1 ∷ 0 ∷ []) ∷ [] ∷ (4 ∷ 1 ∷ 0 ∷ []) ∷ (4 ∷ 1 ∷ 0 ∷ []) ∷ [] ∷ [] ∷ [] ∷ [] ∷ [])
    && equal (told_by rule_e 1 (closed (2 ∷ 2 ∷ 2 ∷ 4 ∷ []) (notar 7 ∷ notar 8 ∷ skip ∷ no_cell ∷ []))) (4 ∷ 1 ∷ 0 ∷ [])

-- F by kind 1, or kinds 2 and 5 together; once per slot; where a total that is not the sum lets three be final, the lowest, and the next
-- as its newcomer.
abbrev finals : Bool
finals =
    let cast : ℕ → Cell → Cell → List ℕ = (λ other b c. told_by rule_f 1 (armed (1 ∷ other ∷ (9 - other) ∷ []) (no_cell ∷ b ∷ c ∷ []))) in
    let three : Cell → Cell → Cell → List ℕ = (λ b c d. told (with_total (armed (1 ∷ 4 ∷ 4 ∷ 4 ∷ []) (no_cell ∷ b ∷ c ∷ d ∷ [])) 5)) in
    equals (cast 8 (notar 7) no_cell ∷ cast 7 (notar 7) no_cell ∷ cast 6 (notar_final 7) no_cell ∷ cast 6 (notar 7) no_cell ∷ cast 5 (notar_final 7) (cell 0 0 7 0 0 0 1)
    ∷ told_by rule_f 1 (put_final (armed (1 ∷ 8 ∷ 1 ∷ []) (no_cell ∷ notar 7 ∷ no_cell ∷ [])) 1 7) ∷ three (notar 8) (notar 9) (notar 10) ∷ three (notar 10) (notar 9) (notar 8) ∷ [])
    ((6 ∷ 1 ∷ 7 ∷ []) ∷ [] ∷ (6 ∷ 1 ∷ 7 ∷ []) ∷ [] ∷ [] ∷ [] ∷ (6 ∷ 1 ∷ 8 ∷ 8 ∷ 1 ∷ 9 ∷ []) ∷ (6 ∷ 1 ∷ 8 ∷ 8 ∷ 1 ∷ 9 ∷ []) ∷ [])

corners_of_rules : T (all (AbeforeC ∷ BbeforeF ∷ CbeforeD ∷ DbeforeE ∷ EbeforeF ∷ restart ∷ restart_lower ∷ slots_ascend ∷ windows_of_four ∷ next_door ∷ sixteen_skips
    ∷ far_parent ∷ parents ∷ parents_apart ∷ chain ∷ inside_windows ∷ not_armed_inside ∷ other_genesis ∷ many_rules ∷ timeouts ∷ thresholds ∷ final_votes ∷ fallbacks ∷ three_cast ∷ skips_beside_fallback ∷ skips_beside_final ∷ skip_fallbacks ∷ finals ∷ []))
unfolding rules
corners_of_rules = tt
