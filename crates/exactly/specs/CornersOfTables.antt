-- Computed cases of one stake table: what the comparison says beside the two lists of stakes.
use Rattle.std.specs.Prelude.{Bool, not, ◌&&◌, List, [], ◌∷◌, ℕ, T}
use Rattle.rulebook.specs.Ledger.{Ledger, fresh, table_of}
use Rattle.rulebook.specs.Scripts.{vote, stored, equal, all}
use Rattle.rulebook.specs.Computes.{rules}
use Rattle.difference_lines.specs.Lines.{same_tables}

-- A member of a ring with these stakes, which stored a vote.
abbrev member : List ℕ → ℕ → Ledger
member stakes own = stored (fresh stakes own 1) (vote 1 1 1 7 ∷ [])

-- The comparison and the lists say the same: one table; other tables.
abbrev one : Ledger → Ledger → Bool
one l m = same_tables l m && equal (table_of l) (table_of m)

abbrev other : Ledger → Ledger → Bool
other l m = not (same_tables l m) && not (equal (table_of l) (table_of m))

-- Two members and a watcher of one table, one of them with nothing stored. A stake more or less at any node, two stakes exchanged though
-- their total is the same, a node more or less.
abbrev tables : Bool
tables =
    let l = member (4 ∷ 3 ∷ 3 ∷ []) 0 in
    let apart : List ℕ → Bool = (λ stakes. all (other l (member stakes 0) ∷ other (member stakes 0) l ∷ [])) in
    all (one l (member (4 ∷ 3 ∷ 3 ∷ []) 2) ∷ one l (fresh (4 ∷ 3 ∷ 3 ∷ []) 3 9) ∷ one (fresh (4 ∷ 3 ∷ 3 ∷ []) 3 9) l ∷ one l l
    ∷ apart (4 ∷ 3 ∷ 2 ∷ []) ∷ apart (4 ∷ 3 ∷ 4 ∷ []) ∷ apart (5 ∷ 3 ∷ 3 ∷ []) ∷ apart (3 ∷ 4 ∷ 3 ∷ []) ∷ apart (4 ∷ 3 ∷ []) ∷ apart (4 ∷ 3 ∷ 3 ∷ 1 ∷ []) ∷ [])

corners_of_tables : T tables
unfolding rules same_tables
corners_of_tables = tt
