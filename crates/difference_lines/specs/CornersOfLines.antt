-- Computed cases of the lines of two ledgers: each kind, both sides, fallbacks in another order, own numbers aside, other tables, the
-- first and the last slot.
use Rattle.std.specs.Prelude.{Bool, not, List, [], ◌∷◌, ◌++◌, ℕ, T}
use Rattle.rulebook.specs.declared.Input.{Input}
use Rattle.rulebook.specs.declared.VoteKind.TheVariants as kind
use Rattle.rulebook.specs.Ledger.{Ledger, fresh, cell_at, put_cell}
use Rattle.rulebook.specs.Scripts.{vote, stored, equal, all}
use Rattle.rulebook.specs.Computes.{rules}
use Rattle.difference_lines.specs.Lines.{is_same, keeps, stores, side_number, spell_lines, vote_at, line_of, blocks_of, ascending, lines_over, block_lines, cell_lines, lines_to, slot_lines, vote_lines, same_tables, differences}

-- Two members of a ring of three, and what they stored.
abbrev three : ℕ → List Input → Ledger
three own is = stored (fresh (4 ∷ 3 ∷ 3 ∷ []) own 1) is

abbrev told : Ledger → Ledger → List ℕ
told l m = spell_lines (differences l m)

-- Nothing stored, and the same stored by two members; a watcher, whose number is 3, and a member likewise, in both orders.
abbrev same : Bool
same =
    let is : List Input = vote 1 1 1 7 ∷ vote 3 2 16 0 ∷ [] in
    let more : List Input = vote 1 1 1 7 ∷ vote 3 2 16 0 ∷ vote 3 0 2 0 ∷ [] in
    all (equal (told (three 0 []) (three 1 [])) [] ∷ equal (told (three 0 is) (three 2 is)) [] ∷ equal (told (three 3 is) (three 0 is)) [] ∷ equal (told (three 0 is) (three 3 is)) []
    ∷ equal (told (three 3 more) (three 0 is)) (2 ∷ 0 ∷ 3 ∷ 0 ∷ 1 ∷ []) ∷ equal (told (three 0 is) (three 3 more)) (2 ∷ 0 ∷ 3 ∷ 0 ∷ 2 ∷ []) ∷ [])

-- Each of the five kinds on either side, what both have on neither; the lower block first, whichever side has it.
abbrev kinds : Bool
kinds =
    let one : List Input = vote 1 1 1 7 ∷ vote 2 1 1 5 ∷ vote 4 1 1 0 ∷ vote 3 2 1 0 ∷ vote 3 0 2 0 ∷ vote 4 0 2 0 ∷ vote 5 0 2 0 ∷ [] in
    let two : List Input = vote 1 1 1 1 ∷ vote 5 1 1 0 ∷ vote 3 2 1 0 ∷ vote 4 2 16 0 ∷ [] in
    let lines : ℕ → ℕ → List ℕ =
    (λ first second. (1 ∷ 1 ∷ 1 ∷ 1 ∷ second ∷ []) ++ (1 ∷ 1 ∷ 1 ∷ 7 ∷ first ∷ []) ++ (1 ∷ 1 ∷ 2 ∷ 5 ∷ first ∷ []) ++ (1 ∷ 1 ∷ 4 ∷ 0 ∷ first ∷ []) ++ (1 ∷ 1 ∷ 5 ∷ 0 ∷ second ∷ [])
    ++ (2 ∷ 0 ∷ 3 ∷ 0 ∷ first ∷ []) ++ (2 ∷ 0 ∷ 4 ∷ 0 ∷ first ∷ []) ++ (2 ∷ 0 ∷ 5 ∷ 0 ∷ first ∷ []) ++ (16 ∷ 2 ∷ 4 ∷ 0 ∷ second ∷ [])) in
    all (equal (told (three 0 one) (three 0 two)) (lines 1 2) ∷ equal (told (three 0 two) (three 0 one)) (lines 2 1)
    ∷ equal (told (three 0 (vote 3 1 2 0 ∷ [])) (three 0 (vote 1 1 2 9 ∷ []))) ((2 ∷ 1 ∷ 1 ∷ 9 ∷ 2 ∷ []) ++ (2 ∷ 1 ∷ 3 ∷ 0 ∷ 1 ∷ [])) ∷ [])

-- The order in which fallbacks arrived plays no part; each place counts, also where it alone differs, or one side has none there; six
-- different blocks are six lines.
abbrev fallbacks : Bool
fallbacks =
    let one : List Input = vote 2 1 3 9 ∷ vote 2 1 3 5 ∷ vote 2 1 3 7 ∷ [] in
    let two : List Input = vote 2 1 3 7 ∷ vote 2 1 3 9 ∷ vote 2 1 3 5 ∷ [] in
    let short : List Input = vote 2 1 3 7 ∷ vote 2 1 3 6 ∷ vote 2 1 3 9 ∷ [] in
    let first : List Input = vote 2 1 3 8 ∷ vote 2 1 3 5 ∷ vote 2 1 3 7 ∷ [] in
    let second : List Input = vote 2 1 3 9 ∷ vote 2 1 3 8 ∷ vote 2 1 3 7 ∷ [] in
    let others : List Input = vote 2 1 3 8 ∷ vote 2 1 3 4 ∷ vote 2 1 3 6 ∷ [] in
    let pair : List Input = vote 2 1 3 9 ∷ vote 2 1 3 5 ∷ [] in
    let third : List Input = vote 2 1 3 9 ∷ vote 2 1 3 5 ∷ vote 2 1 3 8 ∷ [] in
    all (equal (told (three 0 one) (three 0 two)) []
    ∷ equal (told (three 0 one) (three 0 short)) ((3 ∷ 1 ∷ 2 ∷ 5 ∷ 1 ∷ []) ++ (3 ∷ 1 ∷ 2 ∷ 6 ∷ 2 ∷ []))
    ∷ equal (told (three 0 one) (three 0 third)) ((3 ∷ 1 ∷ 2 ∷ 7 ∷ 1 ∷ []) ++ (3 ∷ 1 ∷ 2 ∷ 8 ∷ 2 ∷ []))
    ∷ equal (told (three 0 one) (three 0 first)) ((3 ∷ 1 ∷ 2 ∷ 8 ∷ 2 ∷ []) ++ (3 ∷ 1 ∷ 2 ∷ 9 ∷ 1 ∷ [])) ∷ equal (told (three 0 one) (three 0 second)) ((3 ∷ 1 ∷ 2 ∷ 5 ∷ 1 ∷ []) ++ (3 ∷ 1 ∷ 2 ∷ 8 ∷ 2 ∷ []))
    ∷ equal (told (three 0 one) (three 0 others))
    ((3 ∷ 1 ∷ 2 ∷ 4 ∷ 2 ∷ []) ++ (3 ∷ 1 ∷ 2 ∷ 5 ∷ 1 ∷ []) ++ (3 ∷ 1 ∷ 2 ∷ 6 ∷ 2 ∷ []) ++ (3 ∷ 1 ∷ 2 ∷ 7 ∷ 1 ∷ []) ++ (3 ∷ 1 ∷ 2 ∷ 8 ∷ 2 ∷ []) ++ (3 ∷ 1 ∷ 2 ∷ 9 ∷ 1 ∷ []))
    ∷ equal (told (three 0 pair) (three 0 third)) (3 ∷ 1 ∷ 2 ∷ 8 ∷ 2 ∷ []) ∷ equal (told (three 0 third) (three 0 pair)) (3 ∷ 1 ∷ 2 ∷ 8 ∷ 1 ∷ []) ∷ [])

-- Other stakes, lower or higher on either side and of any node, or another number of nodes give the one line, whatever is stored.
abbrev tables : Bool
tables =
    let is : List Input = vote 1 1 1 7 ∷ [] in
    let apart : List ℕ → Bool = (λ stakes. all (equal (told (three 0 is) (fresh stakes 0 1)) (0 ∷ 0 ∷ 0 ∷ 0 ∷ 0 ∷ []) ∷ equal (told (fresh stakes 0 1) (three 0 is)) (0 ∷ 0 ∷ 0 ∷ 0 ∷ 0 ∷ []) ∷ [])) in
    all (apart (4 ∷ 3 ∷ 2 ∷ []) ∷ apart (4 ∷ 3 ∷ 4 ∷ []) ∷ apart (5 ∷ 3 ∷ 3 ∷ []) ∷ apart (4 ∷ 2 ∷ 3 ∷ []) ∷ apart (4 ∷ 3 ∷ []) ∷ apart (4 ∷ 3 ∷ 3 ∷ 1 ∷ []) ∷ [])

-- A stored vote is one that the ledger keeps; none of a slot or a node that is none, nor with a block that its kind has not.
abbrev storing : Bool
storing =
    let l = three 0 (vote 1 1 1 7 ∷ vote 3 2 16 0 ∷ []) in
    all (stores l (vote_at 1 1 kind.Notar 7) ∷ stores l (vote_at 16 2 kind.Skip 0) ∷ not (stores l (vote_at 1 1 kind.Notar 8)) ∷ not (stores l (vote_at 2 1 kind.Notar 7)) ∷ not (stores l (vote_at 1 2 kind.Notar 7))
    ∷ not (stores l (vote_at 1 1 kind.NotarFallback 7)) ∷ not (stores l (vote_at 1 2 kind.Notar 0)) ∷ not (stores l (vote_at 16 2 kind.Skip 7)) ∷ not (stores l (vote_at 0 1 kind.Notar 0)) ∷ not (stores l (vote_at 1 1 kind.Other 0)) ∷ not (stores (put_cell l 0 1 (cell_at l 1 1)) (vote_at 0 1 kind.Notar 7)) ∷ [])

corners_of_lines : T (all (same ∷ kinds ∷ storing ∷ []))
unfolding rules is_same keeps stores side_number spell_lines line_of blocks_of ascending lines_over block_lines cell_lines lines_to slot_lines vote_lines same_tables differences
corners_of_lines = tt

corners_of_fallbacks : T fallbacks
unfolding rules is_same keeps stores side_number spell_lines line_of blocks_of ascending lines_over block_lines cell_lines lines_to slot_lines vote_lines same_tables differences
corners_of_fallbacks = tt

corners_of_tables : T tables
unfolding rules is_same keeps stores side_number spell_lines line_of blocks_of ascending lines_over block_lines cell_lines lines_to slot_lines vote_lines same_tables differences
corners_of_tables = tt
