-- Computed cases of vote messages: each refusal, their order, and the lengths at which a number grows by a byte.
use Rattle.std.specs.Prelude.{Bool, ◌&&◌, List, [], ◌∷◌, ◌++◌, ℕ, ◌-◌, ◌^◌, T}
use Rattle.rulebook.specs.PaperNumbers.{read_panel, write_panel}
use Rattle.rulebook.specs.Messages.{vote_of, read_vote, write_vote}
use Rattle.rulebook.specs.Scripts.{equal, all}
use Rattle.rulebook.specs.Computes.{rules}

-- The reader's number and values.
abbrev unpacked : ℕ → List ℕ → List ℕ
unpacked count bytes = let p = read_panel (read_vote count bytes) in p.number ∷ p.values

-- The writer's number, the count of its bytes, and the bytes, in a buffer of so many.
abbrev packed : ℕ → ℕ → ℕ → ℕ → ℕ → ℕ → List ℕ
packed count room kind node slot block =
    let w = write_vote count room (vote_of kind node slot block) in
    let p = write_panel w.answer in p.number ∷ (p.values ++ w.bytes)

-- A reader's refusal, and a writer's.
abbrev reads : ℕ → ℕ → List ℕ → Bool
reads number count bytes = equal (unpacked count bytes) (number ∷ 0 ∷ 0 ∷ 0 ∷ 0 ∷ [])

abbrev writes : ℕ → ℕ → ℕ → ℕ → ℕ → ℕ → ℕ → Bool
writes number count room kind node slot block = equal (packed count room kind node slot block) (number ∷ 0 ∷ [])

-- A vote is written as these bytes, and they are read as that vote.
abbrev both : ℕ → ℕ → ℕ → ℕ → ℕ → List ℕ → ℕ → Bool
both count kind node slot block bytes n =
    equal (packed count 16 kind node slot block) (0 ∷ n ∷ bytes)
    && equal (unpacked count bytes) (0 ∷ kind ∷ node ∷ slot ∷ block ∷ [])

-- Kind, node, slot, block in this order; nodes and blocks at the ends of each length; 14 bytes at most.
abbrev spelled : Bool
spelled =
    all (both 4 1 3 2 7 (1 ∷ 3 ∷ 2 ∷ 7 ∷ []) 4 ∷ both 64 5 63 16 0 (5 ∷ 63 ∷ 16 ∷ 0 ∷ []) 4 ∷ both 1 3 0 1 0 (3 ∷ 0 ∷ 1 ∷ 0 ∷ []) 4
    ∷ both 1 2 0 16 127 (2 ∷ 0 ∷ 16 ∷ 127 ∷ []) 4 ∷ both 1 2 0 16 128 (2 ∷ 0 ∷ 16 ∷ 0x80 ∷ 1 ∷ []) 5
    ∷ both 128 5 127 16 0 (5 ∷ 127 ∷ 16 ∷ 0 ∷ []) 4 ∷ both 129 5 128 16 0 (5 ∷ 0x80 ∷ 1 ∷ 16 ∷ 0 ∷ []) 5
    ∷ both 2048 1 2047 16 (2 ^ 64 - 1) (1 ∷ 0xFF ∷ 15 ∷ 16 ∷ 0xFF ∷ 0xFF ∷ 0xFF ∷ 0xFF ∷ 0xFF ∷ 0xFF ∷ 0xFF ∷ 0xFF ∷ 0xFF ∷ 1 ∷ []) 14 ∷ [])

-- A count outside 1 to 2,048 "is 1, tested first": before 12, and before 9.
abbrev counts : Bool
counts =
    all (reads 1 0 [] ∷ reads 1 2049 [] ∷ reads 12 1 [] ∷ reads 12 65 [] ∷ reads 12 2048 [] ∷ writes 1 0 0 9 9 0 0 ∷ writes 1 2049 0 9 9 0 0 ∷ writes 1 0 16 1 0 1 7 ∷ writes 1 2049 16 1 0 1 7 ∷ [])

-- "12 and 13 as met over the four numbers": before 4 where the kind is none; a number that is not shortest before the end.
abbrev met : Bool
met =
    all (reads 12 4 (9 ∷ []) ∷ reads 12 4 (9 ∷ 3 ∷ 2 ∷ []) ∷ reads 12 4 (1 ∷ 3 ∷ 2 ∷ 0x87 ∷ []) ∷ reads 13 4 (0x80 ∷ 0 ∷ [])
    ∷ reads 13 4 (9 ∷ 0x80 ∷ 0 ∷ []) ∷ reads 13 4 (1 ∷ 3 ∷ 2 ∷ 0x87 ∷ 0 ∷ []) ∷ reads 12 4 (9 ∷ 0x80 ∷ []) ∷ [])

-- "then 4, 3, 2, 5, and 12 for leftovers last": each where all later ones are due too, and alone; 2 far beyond the table as well.
abbrev ordered : Bool
ordered =
    all (reads 4 4 (6 ∷ 4 ∷ 17 ∷ 0 ∷ 0 ∷ []) ∷ reads 3 4 (1 ∷ 4 ∷ 17 ∷ 0 ∷ 0 ∷ []) ∷ reads 2 4 (1 ∷ 4 ∷ 16 ∷ 0 ∷ 0 ∷ [])
    ∷ reads 5 4 (1 ∷ 3 ∷ 16 ∷ 0 ∷ 0 ∷ []) ∷ reads 12 4 (1 ∷ 3 ∷ 16 ∷ 7 ∷ 0 ∷ [])
    ∷ reads 4 4 (0 ∷ 3 ∷ 1 ∷ 0 ∷ []) ∷ reads 3 4 (3 ∷ 3 ∷ 0 ∷ 0 ∷ []) ∷ reads 2 4 (3 ∷ 4 ∷ 1 ∷ 0 ∷ []) ∷ reads 2 4 (3 ∷ 99 ∷ 1 ∷ 0 ∷ []) ∷ reads 5 4 (4 ∷ 3 ∷ 1 ∷ 7 ∷ []) ∷ [])

-- "The writer needs 16 bytes, or it gives 9; after that 4, 3, 2, 5."
abbrev written : Bool
written =
    all (writes 9 4 15 6 4 17 0 ∷ writes 4 4 16 6 4 17 0 ∷ writes 3 4 16 1 4 17 0 ∷ writes 2 4 16 1 4 16 0 ∷ writes 2 4 16 1 99 16 0 ∷ writes 5 4 16 1 3 16 0
    ∷ writes 5 4 16 5 3 16 7 ∷ writes 9 4 15 1 3 16 7 ∷ equal (packed 4 17 1 3 16 7) (0 ∷ 4 ∷ 1 ∷ 3 ∷ 16 ∷ 7 ∷ []) ∷ equal (packed 4 2049 1 3 16 7) (0 ∷ 4 ∷ 1 ∷ 3 ∷ 16 ∷ 7 ∷ []) ∷ [])

messages : T (all (spelled ∷ counts ∷ met ∷ ordered ∷ written ∷ []))
unfolding rules
messages = tt
