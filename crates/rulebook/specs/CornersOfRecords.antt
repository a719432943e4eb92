-- Computed cases of 17: a record in range that has something in every place, and the same record with one place spoiled.
use Rattle.std.specs.Prelude.{Bool, not, ◌&&◌, List, [], ◌∷◌, ◌++◌, ℕ, suc, ◌+◌, ◌-◌, ◌^◌, min, set, replicate, T}
use Rattle.rulebook.specs.declared.Cell.{Cell}
use Rattle.rulebook.specs.declared.Block.{Block}
use Rattle.rulebook.specs.declared.Input.{Input}
use Rattle.rulebook.specs.PaperNumbers.{step_panel}
use Rattle.rulebook.specs.Tools.{choose}
use Rattle.rulebook.specs.Weights.{last_slot, windows}
use Rattle.rulebook.specs.declared.Tally.{Tally}
use Rattle.rulebook.specs.Certificates.{Kept}
use Rattle.rulebook.specs.Ledger.{Ledger, Row, none, no_block, blank_row, card_of, row_at, put_row, put_cell, put_card, put_vote, put_blocks, put_certificates, put_timed_out, put_final, put_clash, put_armed, fresh}
use Rattle.rulebook.specs.WellFormed.{blocks_fit, head_fits, well_formed, step}
use Rattle.rulebook.specs.Scripts.{vote, look, cell, recounted, with_votes, ring, equal, all}
use Rattle.rulebook.specs.Computes.{rules}

abbrev block_of : ℕ → ℕ → ℕ → Block
block_of n p a = record { number = n; parentslot = record { 0 = p }; parent = a }

-- A block of slot 2 with its parent in slot 1, and nothing where its number is 0.
abbrev kept_as : ℕ → ℕ → Block
kept_as n a = choose (none n) no_block (block_of n 1 a)

-- The ledger with these four places for blocks in slot s.
abbrev with_blocks : Ledger → ℕ → Block → Block → Block → Block → Ledger
with_blocks l s a b c d = put_blocks l s (a ∷ b ∷ c ∷ d ∷ [])

-- The ledger with one block kept in slot s.
abbrev with_block : Ledger → ℕ → Block → Ledger
with_block l s b = with_blocks l s b no_block no_block no_block

-- Two nodes of stakes 6 and 4. In range though odd: own votes and a timeout without an armed window, a final vote beside fallbacks, a
-- fallback for the block of the notar vote, another node's fallbacks for blocks without weight, a final mark without certificates; the
-- last slot is used too.
abbrev odd : Ledger
odd =
    let kept = with_block (ring (6 ∷ 4 ∷ []) (cell 7 0 7 0 0 1 1 ∷ cell 0 1 5 6 7 1 1 ∷ [])) 1 (block_of 7 0 1) in
    with_votes (put_final (put_timed_out (with_blocks kept 16 (block_of 7 15 3) (block_of 6 15 3) (block_of 9 0 1) (block_of 8 1 7)) 9) 16 1) 16 1
    (cell 0 0 8 9 0 1 0)

-- A cell in the place of node n's in slot s.
abbrev with_cell : ℕ → ℕ → Cell → Bool
with_cell s n c = well_formed (with_votes odd s n c)

-- The votes of a node: flags above 1, two initial votes, fallbacks not from the front, one of them twice.
abbrev cells : Bool
cells =
    let fits = with_cell 1 1 in
    all (not (fits (cell 7 1 0 0 0 0 0)) ∷ not (fits (cell 0 2 0 0 0 0 0)) ∷ not (fits (cell 0 0 0 0 0 2 0)) ∷ not (fits (cell 0 0 0 0 0 0 2))
    ∷ not (fits (cell 0 0 0 6 0 0 0)) ∷ not (fits (cell 0 0 0 0 6 0 0)) ∷ not (fits (cell 0 0 5 0 6 0 0))
    ∷ not (fits (cell 0 0 5 5 0 0 0)) ∷ not (fits (cell 0 0 5 6 6 0 0)) ∷ not (fits (cell 0 0 5 6 5 0 0)) ∷ not (fits (cell 1 1 0 0 0 0 0)) ∷ not (fits (cell 0 0 1 2 1 0 0)) ∷ not (fits (cell 0 0 0 1 0 0 0)) ∷ fits (cell 0 0 1 5 0 0 0) ∷ not (with_cell 16 1 (cell 0 2 0 0 0 0 0)) ∷ [])

-- The own fallbacks of the own cell c, of five nodes of one fifth each: node 1 has skip, nodes 2 to 4 have notar for 21, 22 and 23.
abbrev fifths : Cell → Ledger
fifths c = ring (1 ∷ 1 ∷ 1 ∷ 1 ∷ 1 ∷ []) (c ∷ cell 0 1 0 0 0 0 0 ∷ cell 21 0 0 0 0 0 0 ∷ cell 22 0 0 0 0 0 0 ∷ cell 23 0 0 0 0 0 0 ∷ [])

-- The record of another own number.
abbrev with_own : Ledger → ℕ → Ledger
with_own l n =
    record { count = l.count; total = l.total; own = n; genesis = l.genesis; armed = l.armed; stakes = l.stakes; rows = l.rows }

-- "a node record with an own notar-fallback whose block does not reach rule D's weights by the stored votes is now 17": in each of the
-- three places, by a skip too few, in another slot, in the own cell alone. The tightest case: three blocks of one fifth beside two
-- fifths of skip.
abbrev own_fallbacks : Bool
own_fallbacks =
    let l = fifths (cell 0 1 21 22 23 0 0) in
    let own : Cell → Bool = (λ c. well_formed (fifths c)) in
    all (well_formed l ∷ not (own (cell 0 1 24 22 23 0 0)) ∷ not (own (cell 0 1 21 24 23 0 0)) ∷ not (own (cell 0 1 21 22 24 0 0))
    ∷ not (own (cell 0 1 1 22 23 0 0)) ∷ not (own (cell 7 0 21 0 0 0 0)) ∷ not (well_formed (with_votes l 1 1 (cell 0 0 0 0 0 1 0))) ∷ well_formed (with_votes l 1 1 (cell 0 1 31 32 33 0 0))
    ∷ not (well_formed (with_votes l 2 0 (cell 0 1 21 0 0 0 0))) ∷ not (well_formed (with_votes l 16 0 (cell 0 1 21 0 0 0 0)))
    ∷ well_formed (with_own (fifths (cell 0 1 31 32 33 0 0)) 4) ∷ not (well_formed (with_own (with_votes l 1 4 (cell 23 0 31 0 0 0 0)) 4)) ∷ [])

-- The same by notar votes alone: two fifths are enough and one is not; nothing else of rule D is asked, neither an own initial vote nor
-- the wait for the block and its parent.
abbrev own_by_notar : Bool
own_by_notar =
    let l = ring (3 ∷ 2 ∷ []) [] in
    let own : ℕ → Ledger → Bool = (λ s m. well_formed (with_votes (with_votes m s 0 (cell 0 0 8 0 0 0 0)) s 1 (cell 8 0 0 0 0 0 0))) in
    all (own 1 l ∷ own 2 l ∷ not (own 1 (ring (4 ∷ 1 ∷ []) [])) ∷ not (own 2 (ring (4 ∷ 1 ∷ []) [])) ∷ [])

-- A slot in which every node has a notar vote, for one block or for three, and one in which each has every vote that it can have.
abbrev full_slots : Bool
full_slots =
    let fits : List Cell → Bool = (λ cs. well_formed (ring (1 ∷ 1 ∷ 1 ∷ []) cs)) in
    let most : Cell = cell 7 0 21 22 23 1 1 in
    all (fits (cell 7 0 0 0 0 0 0 ∷ cell 7 0 0 0 0 0 0 ∷ cell 7 0 0 0 0 0 0 ∷ []) ∷ fits (cell 9 0 0 0 0 0 0 ∷ cell 8 0 0 0 0 0 0 ∷ cell 7 0 0 0 0 0 0 ∷ []) ∷ fits (cell 7 0 7 0 0 1 1 ∷ most ∷ most ∷ []) ∷ [])

-- Unused cells: those of row 0, the first and the last.
abbrev unused_cells : Bool
unused_cells =
    let fits : ℕ → Cell → Bool = (λ n c. well_formed (put_cell odd 0 n c)) in
    let blank_only : ℕ → Bool =
    (λ n.
    all (not (fits n (cell 1 0 0 0 0 0 0)) ∷ not (fits n (cell 0 1 0 0 0 0 0)) ∷ not (fits n (cell 0 0 1 0 0 0 0)) ∷ not (fits n (cell 0 0 0 1 0 0 0))
    ∷ not (fits n (cell 0 0 0 0 1 0 0)) ∷ not (fits n (cell 0 0 0 0 0 1 0)) ∷ not (fits n (cell 0 0 0 0 0 0 1)) ∷ [])) in
    blank_only 0 && blank_only 1

-- These four places of slot 2 are in range.
abbrev four_fit : Block → Block → Block → Block → Bool
four_fit a b c d = blocks_fit odd 2 (a ∷ b ∷ c ∷ d ∷ [])

-- A place of slot 2 with something in it: a parent against 5 or 11, a parent where no block is kept.
abbrev spoiled : (Block → Bool) → Bool
spoiled fits =
    all (fits (block_of 7 1 5) ∷ not (fits (block_of 7 1 0)) ∷ not (fits (block_of 7 2 5)) ∷ not (fits (block_of 7 3 5)) ∷ not (fits (block_of 7 0 5)) ∷ not (fits (block_of 0 1 0))
    ∷ not (fits (block_of 0 0 1)) ∷ [])

-- Each of the four places obeys 5 and 11.
abbrev kept_blocks : Bool
kept_blocks =
    let a = block_of 21 1 5 in
    let b = block_of 22 1 5 in
    let c = block_of 23 1 5 in
    all (spoiled (λ d. well_formed (with_block odd 2 d)) ∷ spoiled (λ d. four_fit a d no_block no_block) ∷ spoiled (λ d. four_fit a b d no_block) ∷ spoiled (λ d. four_fit a b c d) ∷ [])

-- The numbers of the places, with one parent or with two: from the front, and none twice.
abbrev numbers_apart : Bool
numbers_apart =
    let fits : ℕ → ℕ → ℕ → ℕ → Bool = (λ a b c d. four_fit (kept_as a 5) (kept_as b 5) (kept_as c 6) (kept_as d 5)) in
    all (fits 0 0 0 0 ∷ fits 7 0 0 0 ∷ fits 7 8 0 0 ∷ fits 9 8 7 0 ∷ fits 7 8 9 10 ∷ not (fits 0 7 0 0) ∷ not (fits 0 0 7 0) ∷ not (fits 0 0 0 7) ∷ not (fits 7 0 8 0) ∷ not (fits 7 0 0 8)
    ∷ not (fits 7 8 0 9) ∷ not (fits 0 7 8 9) ∷ not (fits 7 7 0 0) ∷ not (fits 7 8 7 0) ∷ not (fits 7 8 9 7) ∷ not (fits 7 8 8 0) ∷ not (fits 0 1 0 0) ∷ fits 1 7 0 0 ∷ not (fits 7 8 9 8) ∷ not (fits 7 8 9 9) ∷ [])

-- A timeout mark above 1, a mark of two final blocks above 1, and one that is in range; row 0's words, each.
abbrev marks : Bool
marks =
    let r = row_at odd 2 in
    let blank_but : Block → Bool = (λ b. well_formed (with_block odd 0 b)) in
    let with_marks : ℕ → ℕ → Bool = (λ t c. well_formed (put_row odd 2 (record { blocks = r.blocks; timed_out = t; final = r.final; clash = c; card = r.card; certificates = r.certificates; cells = r.cells }))) in
    all (with_marks 1 1 ∷ not (with_marks 2 0) ∷ not (with_marks 0 2) ∷ not (well_formed (put_timed_out odd 0)) ∷ not (well_formed (put_clash odd 0))
    ∷ not (well_formed (put_final odd 0 7)) ∷ not (well_formed (put_final odd 0 1)) ∷ not (blank_but (block_of 7 0 0)) ∷ not (blank_but (block_of 0 1 0)) ∷ not (blank_but (block_of 0 0 1))
    ∷ not (well_formed (with_blocks odd 0 no_block no_block no_block (block_of 7 0 0))) ∷ [])

-- The record with another header, its cards recounted.
abbrev headed : ℕ → ℕ → ℕ → List ℕ → List ℕ → Bool
headed c t o a w =
    well_formed (recounted (recounted (record { count = c; total = t; own = o; genesis = odd.genesis; armed = a; stakes = w; rows = odd.rows }) 1) 16)

-- Count, total, own number; each armed flag; a stake of 0, one past the count, a total above 2^48. Genesis 0 in a fresh record: no kept
-- block has its parent in slot 0.
abbrev heads : Bool
heads =
    let a = odd.armed in
    let w = odd.stakes in
    let begun : ℕ → Bool = (λ g. head_fits (fresh (6 ∷ 4 ∷ []) 0 g)) in
    all (not (headed 0 0 0 a []) ∷ not (headed 3 10 0 a (w ++ (0 ∷ []))) ∷ not (headed 1 6 0 a w) ∷ not (headed 2 9 0 a w) ∷ not (headed 2 11 0 a w) ∷ not (headed 3 2 0 a (1 ∷ 1 ∷ 3 ∷ []))
    ∷ not (headed 2 10 3 a w) ∷ begun 1 ∷ not (begun 0) ∷ not (headed 2 10 0 (set a 0 2) w) ∷ not (headed 2 10 0 (set a 1 2) w) ∷ not (headed 2 10 0 (set a 2 2) w)
    ∷ not (headed 2 10 0 (set a 3 2) w) ∷ not (headed 2 6 0 a (set w 1 0)) ∷ not (headed 2 10 0 a (w ++ (1 ∷ []))) ∷ not (headed 2 (2 ^ 48 + 1) 0 a (set (set w 0 (2 ^ 48)) 1 1)) ∷ [])

-- Genesis 9: a kept block's parent in slot 0 is 9.
abbrev other_genesis : Bool
other_genesis =
    let l = fresh (6 ∷ 4 ∷ []) 0 9 in
    let fits : ℕ → Bool = (λ g. well_formed (with_block l 2 (block_of 7 0 g))) in
    all (head_fits l ∷ equal l.armed (0 ∷ 0 ∷ 0 ∷ 0 ∷ []) ∷ fits 9 ∷ not (fits 1) ∷ not (fits 8) ∷ not (fits 10) ∷ [])

-- A ring of n nodes of stake 1 whose record has p places.
abbrev sized : ℕ → ℕ → Ledger
sized n p =
    record {
      count = n;
      total = n;
      own = 0;
      genesis = 1;
      armed = replicate windows 0;
      stakes = replicate (min n p) 1 ++ replicate (p - n) 0;
      rows = replicate (suc last_slot) (blank_row p);
    }

-- A record one place too long or too short for its count, on either side of 64. The head alone asks for the length; at 65 all of 17 is asked.
abbrev lengths : Bool
lengths =
    let fits : ℕ → ℕ → Bool = (λ n p. well_formed (sized n p)) in
    all (fits 1 1 ∷ not (fits 1 2) ∷ not (fits 2 1) ∷ fits 2 2 ∷ not (fits 1 64) ∷ head_fits (sized 64 64) ∷ not (fits 64 65) ∷ not (fits 64 63) ∷ not (fits 65 64) ∷ fits 65 65 ∷ not (fits 65 66) ∷ [])

-- ---- each write touches what it names

-- A row with one place for each thing, and the numbers that it keeps.
abbrev row_of : Block → ℕ → ℕ → ℕ → Tally → Kept → Cell → Row
row_of b t f c card q v = record { blocks = b ∷ []; timed_out = t; final = f; clash = c; card = card; certificates = q ∷ []; cells = v ∷ [] }

abbrev kept_of : ℕ → ℕ → ℕ → Kept
kept_of b x y = record { block = b; maska = x; maskb = y }

abbrev in_blocks : List Block → List ℕ
in_blocks [] = []
in_blocks (b ∷ bs) = b.number ∷ b.parentslot.0 ∷ b.parent ∷ in_blocks bs

abbrev in_kept : List Kept → List ℕ
in_kept [] = []
in_kept (q ∷ qs) = q.block ∷ q.maska ∷ q.maskb ∷ in_kept qs

abbrev in_cells : List Cell → List ℕ
in_cells [] = []
in_cells (c ∷ cs) = c.notar ∷ c.skip ∷ c.fallback1 ∷ c.fallback2 ∷ c.fallback3 ∷ c.skipfallback ∷ c.finalvote ∷ in_cells cs

abbrev in_card : Tally → List ℕ
in_card t = t.skip.0 ∷ t.finals.0 ∷ t.skipcert.0 ∷ t.leader ∷ t.weight.0 ∷ []

abbrev in_rows : List Row → List ℕ
in_rows [] = []
in_rows (r ∷ rs) = in_blocks r.blocks ++ (r.timed_out ∷ r.final ∷ r.clash ∷ in_card r.card ++ (in_kept r.certificates ++ (in_cells r.cells ++ in_rows rs)))

abbrev in_ledger : Ledger → List ℕ
in_ledger l = l.count ∷ l.total ∷ l.own ∷ l.genesis ∷ l.armed ++ (l.stakes ++ in_rows l.rows)

-- Slot 1 of a ledger with another number in each of its places: what a write there leaves, and what is expected of it.
abbrev touches : Bool
touches =
    let b = block_of 31 32 33 in
    let t = card_of 41 42 43 44 45 in
    let q = kept_of 51 52 53 in
    let v = cell 61 62 63 64 65 66 67 in
    let other = row_of (block_of 71 72 73) 74 75 76 (card_of 77 78 79 80 81) (kept_of 82 83 84) (cell 85 86 87 88 89 90 91) in
    let ledger : List ℕ → Row → Ledger = (λ a r. record { count = 11; total = 12; own = 13; genesis = 14; armed = a; stakes = 19 ∷ []; rows = other ∷ r ∷ other ∷ [] }) in
    let a : List ℕ = 15 ∷ 16 ∷ 17 ∷ 18 ∷ [] in
    let l = ledger a (row_of b 21 22 23 t q v) in
    let leaves : Ledger → Row → Bool = (λ m r. equal (in_ledger m) (in_ledger (ledger a r))) in
    all (leaves (put_cell l 1 0 (cell 1 2 3 4 5 6 7)) (row_of b 21 22 23 t q (cell 1 2 3 4 5 6 7)) ∷ leaves (put_card l 1 (card_of 1 2 3 4 5)) (row_of b 21 22 23 (card_of 1 2 3 4 5) q v)
    ∷ leaves (put_vote l 1 0 (cell 1 2 3 4 5 6 7) (card_of 1 2 3 4 5)) (row_of b 21 22 23 (card_of 1 2 3 4 5) q (cell 1 2 3 4 5 6 7)) ∷ leaves (put_blocks l 1 (block_of 1 2 3 ∷ [])) (row_of (block_of 1 2 3) 21 22 23 t q v)
    ∷ leaves (put_certificates l 1 (kept_of 1 2 3 ∷ [])) (row_of b 21 22 23 t (kept_of 1 2 3) v) ∷ leaves (put_timed_out l 1) (row_of b 1 22 23 t q v) ∷ leaves (put_final l 1 9) (row_of b 21 9 23 t q v)
    ∷ leaves (put_clash l 1) (row_of b 21 22 1 t q v) ∷ equal (in_ledger (put_armed l 6)) (in_ledger (ledger (15 ∷ 1 ∷ 17 ∷ 18 ∷ []) (row_of b 21 22 23 t q v))) ∷ [])

-- 17 before 9, 9 before all else; 479 words are too few, 480 and more are enough. The last two: a record with own fallbacks, in range and not.
abbrev step_order : Bool
step_order =
    let number : Ledger → ℕ → Input → ℕ = (λ l room i. (step_panel (step l room i).answer).number) in
    equal (number (put_timed_out odd 0) 0 (vote 9 0 0 0) ∷ number odd 479 (vote 9 0 0 0) ∷ number odd 480 (vote 9 0 0 0) ∷ number odd 481 (vote 9 0 0 0) ∷ number (fifths (cell 0 1 21 22 23 0 0)) 480 look ∷ number (fifths (cell 0 1 21 22 24 0 0)) 480 look ∷ [])
    (17 ∷ 9 ∷ 4 ∷ 4 ∷ 0 ∷ 17 ∷ [])

corners_of_records : T (all (cells ∷ own_fallbacks ∷ own_by_notar ∷ full_slots ∷ unused_cells ∷ kept_blocks ∷ numbers_apart ∷ marks ∷ heads ∷ other_genesis ∷ lengths ∷ touches ∷ step_order ∷ []))
unfolding rules
corners_of_records = tt
