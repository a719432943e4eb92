-- Computed cases of a row with nothing in it: one word of any part is something.
use Rattle.std.specs.Prelude.{Bool, not, List, [], ◌∷◌, ◌++◌, ℕ, replicate, T}
use Rattle.rulebook.specs.Certificates.{Kept}
use Rattle.rulebook.specs.Ledger.{Ledger, no_block, card_of, no_kept, put_cell, put_card, put_blocks, put_certificates, put_timed_out, put_final, put_clash, fresh}
use Rattle.rulebook.specs.Scripts.{cell, all}
use Rattle.rulebook.specs.Computes.{rules}
use Rattle.blank_rows.specs.Blank.{nothing_in}

-- A fresh ring of two.
abbrev two : Ledger
two = fresh (1 ∷ 1 ∷ []) 0 1

-- Something stands in slot 3, and nothing in the slots beside it.
abbrev there : Ledger → Bool
there l = all (not (nothing_in l 3) ∷ nothing_in l 2 ∷ nothing_in l 4 ∷ [])

-- Nothing in any slot, genesis's and the last among them.
abbrev nothing : Bool
nothing = all (nothing_in two 0 ∷ nothing_in two 3 ∷ nothing_in two 16 ∷ [])

-- A block in the last place, a mark, a final block, two final blocks told of, the card's last word.
abbrev heads : Bool
heads =
    all (there (put_blocks two 3 (no_block ∷ no_block ∷ no_block ∷ record { number = 0; parentslot = record { 0 = 0 }; parent = 1 } ∷ []))
    ∷ there (put_timed_out two 3) ∷ there (put_final two 3 7) ∷ there (put_clash two 3) ∷ there (put_card two 3 (card_of 0 0 0 0 1)) ∷ [])

-- A mask in the last place for certificates; a vote of the last node, the last word of its cell.
abbrev places : Bool
places =
    let last : List Kept = replicate 12 no_kept ++ (record { block = 0; maska = 0; maskb = 1 } ∷ []) in
    all (there (put_certificates two 3 last) ∷ there (put_cell two 3 1 (cell 0 0 0 0 0 0 1)) ∷ [])

corners_of_blank : T (all (nothing ∷ heads ∷ places ∷ []))
unfolding rules nothing_in
corners_of_blank = tt
