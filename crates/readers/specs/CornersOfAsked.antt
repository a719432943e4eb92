-- Computed cases of a host's questions to a record: which slot, window and node is asked, which of a cell's seven words is which, which of
-- four places for blocks, of two marks and of a head's four words, 17 before 3 before 2, zeros beside a refusal.
use Rattle.std.specs.Prelude.{◌≡◌, true, false, List, [], ◌∷◌, ◌++◌, ℕ, T, Ok, Err}
use Rattle.rulebook.specs.declared.Block.{Block}
use Rattle.rulebook.specs.declared.Refusal.TheVariants as refusal
use Rattle.rulebook.specs.PaperNumbers.{Panel}
use Rattle.rulebook.specs.Ledger.{Ledger, fresh, no_block, put_armed, put_final, put_blocks, put_timed_out, put_clash}
use Rattle.rulebook.specs.Scripts.{vote, stored, cell, equals}
use Rattle.rulebook.specs.Computes.{rules}
use Rattle.record.specs.Layout.{ledger_of}
use Rattle.soundness.specs.Sound.{sound_words}
use Rattle.readers.specs.Asked.{on_slot, final_on, armed_on, votes_on, blocks_kept, blocks_on, marks_kept, marks_on, head_kept, head_on, final_panel, armed_panel, votes_panel, blocks_panel, marks_panel, head_panel}

-- An answer's number and the values beside it.
abbrev shown : Panel → List ℕ
shown p = p.number ∷ p.values

-- What is answered to a question of each slot of a list.
abbrev asked : (ℕ → Panel) → List ℕ → List (List ℕ)
asked f [] = []
asked f (s ∷ ss) = shown (f s) ∷ asked f ss

-- The second window is armed; 9 is final in slot 2, and 11 in the last; node 1 has every vote that it can have in slot 3.
abbrev kept : Ledger
kept =
    put_final (put_final (put_armed (stored (fresh (1 ∷ 2 ∷ 2 ∷ []) 0 1) (vote 1 1 3 8 ∷ vote 2 1 3 5 ∷ vote 2 1 3 6 ∷ vote 2 1 3 7 ∷ vote 4 1 3 0 ∷ vote 5 1 3 0 ∷ vote 3 2 3 0 ∷ [])) 6) 2 9) 16 11

-- Of words that hold it: a slot's final block, whether its window is armed, and a node's votes in it.
reads_told : (ws : List ℕ) → sound_words ws ≡ true → ledger_of ws ≡ kept
    → T (equals (asked (λ s. final_panel (final_on ws s)) (1 ∷ 2 ∷ 16 ∷ 0 ∷ 17 ∷ []) ++ (asked (λ s. armed_panel (armed_on ws s)) (1 ∷ 4 ∷ 5 ∷ 8 ∷ 9 ∷ 0 ∷ 17 ∷ [])
    ++ (asked (λ n. votes_panel (votes_on ws 3 n)) (1 ∷ 2 ∷ 0 ∷ 3 ∷ 99 ∷ []) ++ asked (λ s. votes_panel (votes_on ws s 1)) (1 ∷ []) ++ asked (λ s. votes_panel (votes_on ws s 99)) (0 ∷ 17 ∷ []))))
    (((0 ∷ 0 ∷ []) ∷ (0 ∷ 9 ∷ []) ∷ (0 ∷ 11 ∷ []) ∷ (3 ∷ 0 ∷ []) ∷ (3 ∷ 0 ∷ []) ∷ [])
    ++ (((0 ∷ 0 ∷ []) ∷ (0 ∷ 0 ∷ []) ∷ (0 ∷ 1 ∷ []) ∷ (0 ∷ 1 ∷ []) ∷ (0 ∷ 0 ∷ []) ∷ (3 ∷ 0 ∷ []) ∷ (3 ∷ 0 ∷ []) ∷ [])
    ++ ((0 ∷ 8 ∷ 0 ∷ 5 ∷ 6 ∷ 7 ∷ 1 ∷ 1 ∷ []) ∷ (0 ∷ 0 ∷ 1 ∷ 0 ∷ 0 ∷ 0 ∷ 0 ∷ 0 ∷ []) ∷ (0 ∷ 0 ∷ 0 ∷ 0 ∷ 0 ∷ 0 ∷ 0 ∷ 0 ∷ []) ∷ (2 ∷ 0 ∷ 0 ∷ 0 ∷ 0 ∷ 0 ∷ 0 ∷ 0 ∷ []) ∷ (2 ∷ 0 ∷ 0 ∷ 0 ∷ 0 ∷ 0 ∷ 0 ∷ 0 ∷ [])
    ∷ (0 ∷ 0 ∷ 0 ∷ 0 ∷ 0 ∷ 0 ∷ 0 ∷ 0 ∷ []) ∷ (3 ∷ 0 ∷ 0 ∷ 0 ∷ 0 ∷ 0 ∷ 0 ∷ 0 ∷ []) ∷ (3 ∷ 0 ∷ 0 ∷ 0 ∷ 0 ∷ 0 ∷ 0 ∷ 0 ∷ []) ∷ []))))
unfolding rules on_slot final_on armed_on votes_on final_panel armed_panel votes_panel
reads_told ws sound holds = rw (sound, holds) tt

-- Of words that are no record: 17, whatever the slot and the node.
reads_of_none : (ws : List ℕ) → sound_words ws ≡ false
    → T (equals (shown (final_panel (final_on ws 0)) ∷ shown (armed_panel (armed_on ws 0)) ∷ shown (votes_panel (votes_on ws 0 99)) ∷ [])
    ((17 ∷ 0 ∷ []) ∷ (17 ∷ 0 ∷ []) ∷ (17 ∷ 0 ∷ 0 ∷ 0 ∷ 0 ∷ 0 ∷ 0 ∷ 0 ∷ []) ∷ []))
unfolding rules on_slot final_on armed_on votes_on final_panel armed_panel votes_panel
reads_of_none ws unsound = rw unsound tt

-- The panel of each answer by itself.
read_panels : T (equals (shown (final_panel (Ok 9)) ∷ shown (final_panel (Err refusal.BadSlot)) ∷ shown (armed_panel (Ok true)) ∷ shown (armed_panel (Ok false)) ∷ shown (armed_panel (Err refusal.BadSlot)) ∷ shown (votes_panel (Ok (cell 11 12 13 14 15 16 17))) ∷ shown (votes_panel (Err refusal.BadNode)) ∷ [])
    ((0 ∷ 9 ∷ []) ∷ (3 ∷ 0 ∷ []) ∷ (0 ∷ 1 ∷ []) ∷ (0 ∷ 0 ∷ []) ∷ (3 ∷ 0 ∷ []) ∷ (0 ∷ 11 ∷ 12 ∷ 13 ∷ 14 ∷ 15 ∷ 16 ∷ 17 ∷ []) ∷ (2 ∷ 0 ∷ 0 ∷ 0 ∷ 0 ∷ 0 ∷ 0 ∷ 0 ∷ []) ∷ []))
unfolding rules final_panel armed_panel votes_panel
read_panels = tt

-- A block with its parent's slot and number.
abbrev block : ℕ → ℕ → ℕ → Block
block b p x = record { number = b; parentslot = record { 0 = p }; parent = x }

-- Slot 3 keeps one block, slot 4 four; slot 4 is timed out, and in slot 2 another final block was reported.
abbrev filled : Ledger
filled =
    put_clash (put_timed_out (put_blocks (put_blocks kept 3 (block 8 2 9 ∷ no_block ∷ no_block ∷ no_block ∷ [])) 4 (block 21 3 8 ∷ block 22 3 6 ∷ block 23 2 9 ∷ block 24 0 1 ∷ [])) 4) 2

-- Of words that hold it: a slot's kept blocks, and its marks.
keeps_told : (ws : List ℕ) → sound_words ws ≡ true → ledger_of ws ≡ filled
    → T (equals (asked (λ s. blocks_panel (blocks_on ws s)) (1 ∷ 3 ∷ 4 ∷ 0 ∷ 17 ∷ []) ++ asked (λ s. marks_panel (marks_on ws s)) (1 ∷ 2 ∷ 4 ∷ 16 ∷ 0 ∷ 17 ∷ []))
    (((0 ∷ 0 ∷ 0 ∷ 0 ∷ 0 ∷ 0 ∷ 0 ∷ 0 ∷ 0 ∷ 0 ∷ 0 ∷ 0 ∷ 0 ∷ []) ∷ (0 ∷ 8 ∷ 2 ∷ 9 ∷ 0 ∷ 0 ∷ 0 ∷ 0 ∷ 0 ∷ 0 ∷ 0 ∷ 0 ∷ 0 ∷ []) ∷ (0 ∷ 21 ∷ 3 ∷ 8 ∷ 22 ∷ 3 ∷ 6 ∷ 23 ∷ 2 ∷ 9 ∷ 24 ∷ 0 ∷ 1 ∷ []) ∷ (3 ∷ 0 ∷ 0 ∷ 0 ∷ 0 ∷ 0 ∷ 0 ∷ 0 ∷ 0 ∷ 0 ∷ 0 ∷ 0 ∷ 0 ∷ []) ∷ (3 ∷ 0 ∷ 0 ∷ 0 ∷ 0 ∷ 0 ∷ 0 ∷ 0 ∷ 0 ∷ 0 ∷ 0 ∷ 0 ∷ 0 ∷ []) ∷ [])
    ++ ((0 ∷ 0 ∷ 0 ∷ []) ∷ (0 ∷ 0 ∷ 1 ∷ []) ∷ (0 ∷ 1 ∷ 0 ∷ []) ∷ (0 ∷ 0 ∷ 0 ∷ []) ∷ (3 ∷ 0 ∷ 0 ∷ []) ∷ (3 ∷ 0 ∷ 0 ∷ []) ∷ [])))
unfolding rules on_slot blocks_on blocks_kept blocks_panel marks_on marks_kept marks_panel
keeps_told ws sound holds = rw (sound, holds) tt

-- Of words that hold a fresh node 2 of three, and a watcher of them: own number, nodes, stake, genesis.
head_told : (ws : List ℕ) → sound_words ws ≡ true → ledger_of ws ≡ fresh (4 ∷ 5 ∷ 6 ∷ []) 2 9 → T (equals (shown (head_panel (head_on ws)) ∷ []) ((0 ∷ 2 ∷ 3 ∷ 15 ∷ 9 ∷ []) ∷ []))
unfolding rules head_on head_kept head_panel
head_told ws sound holds = rw (sound, holds) tt

watcher_told : (ws : List ℕ) → sound_words ws ≡ true → ledger_of ws ≡ fresh (4 ∷ 5 ∷ 6 ∷ []) 3 9 → T (equals (shown (head_panel (head_on ws)) ∷ []) ((0 ∷ 3 ∷ 3 ∷ 15 ∷ 9 ∷ []) ∷ []))
unfolding rules head_on head_kept head_panel
watcher_told ws sound holds = rw (sound, holds) tt

-- Of words that are no record: 17, whatever the slot.
keeps_of_none : (ws : List ℕ) → sound_words ws ≡ false
    → T (equals (shown (blocks_panel (blocks_on ws 0)) ∷ shown (marks_panel (marks_on ws 0)) ∷ shown (head_panel (head_on ws)) ∷ [])
    ((17 ∷ 0 ∷ 0 ∷ 0 ∷ 0 ∷ 0 ∷ 0 ∷ 0 ∷ 0 ∷ 0 ∷ 0 ∷ 0 ∷ 0 ∷ []) ∷ (17 ∷ 0 ∷ 0 ∷ []) ∷ (17 ∷ 0 ∷ 0 ∷ 0 ∷ 0 ∷ []) ∷ []))
unfolding rules on_slot blocks_on blocks_panel marks_on marks_panel head_on head_panel
keeps_of_none ws unsound = rw unsound tt
