-- Computed cases of the question whether a block may be announced now: 17 first, then the block's own refusals in their order; a slot's first block,
-- a further one at 40, at 20 with 60, and just below.
use Rattle.std.specs.Prelude.{◌≡◌, true, false, List, [], ◌∷◌, ◌++◌, ℕ, T, Ok, Err}
use Rattle.rulebook.specs.declared.Block.{Block}
use Rattle.rulebook.specs.declared.Refusal.TheVariants as refusal
use Rattle.rulebook.specs.PaperNumbers.{Panel}
use Rattle.rulebook.specs.Ledger.{Ledger, fresh, no_block, put_blocks}
use Rattle.rulebook.specs.Scripts.{vote, stored, equals}
use Rattle.rulebook.specs.Computes.{rules}
use Rattle.record.specs.Layout.{ledger_of}
use Rattle.soundness.specs.Sound.{sound_words}
use Rattle.mail.specs.Policy.{may_announce}
use Rattle.announcing.specs.Asked.{judged, announced_on, announce_panel, block_of as block}

-- An answer's number and the value beside it.
abbrev shown : Panel → List ℕ
shown p = p.number ∷ p.values

-- What is answered in slot s to each block of a list.
abbrev asked : List ℕ → ℕ → List Block → List (List ℕ)
asked ws s [] = []
asked ws s (b ∷ bs) = shown (announce_panel (announced_on ws s b)) ∷ asked ws s bs

-- Five of stake 1, genesis 1. Slot 1 keeps 7, has two notar votes for 8, one for 9 and one for 7; slot 2 keeps four blocks; slot 3 keeps 31, has one notar
-- vote for 32 and two skips; slot 4 keeps none.
abbrev kept : Ledger
kept =
    put_blocks
    (put_blocks
    (put_blocks (stored (fresh (1 ∷ 1 ∷ 1 ∷ 1 ∷ 1 ∷ []) 0 1) (vote 1 1 1 8 ∷ vote 1 2 1 8 ∷ vote 1 3 1 9 ∷ vote 1 4 1 7 ∷ vote 1 1 3 32 ∷ vote 3 2 3 0 ∷ vote 3 3 3 0 ∷ vote 1 4 3 33 ∷ []))
    1 (block 7 0 1 ∷ no_block ∷ no_block ∷ no_block ∷ []))
    2 (block 21 1 7 ∷ block 22 1 7 ∷ block 23 1 8 ∷ block 24 0 1 ∷ []))
    3 (block 31 2 21 ∷ no_block ∷ no_block ∷ no_block ∷ [])

-- Of words that hold it. In slot 1, 8 reaches 40 and 9 only 20: 1 and 0; the kept block 7, and with another parent 8. In slot 2 all places are taken: the
-- last one again, its number with another parent, a fifth. In slot 3, 32 has 20 and with the skips 60, 34 has nothing. In slot 4 the first as it comes.
may_told : (ws : List ℕ) → sound_words ws ≡ true → ledger_of ws ≡ kept
    → T (equals (asked ws 1 (block 8 0 1 ∷ block 9 0 1 ∷ block 7 0 1 ∷ [])
    ++ (asked ws 2 (block 24 0 1 ∷ block 24 1 7 ∷ block 25 1 7 ∷ []) ++ (asked ws 3 (block 32 2 21 ∷ block 34 2 21 ∷ []) ++ asked ws 4 (block 41 3 31 ∷ []))))
    (((0 ∷ 1 ∷ []) ∷ (0 ∷ 0 ∷ []) ∷ (7 ∷ 0 ∷ []) ∷ [])
    ++ (((7 ∷ 0 ∷ []) ∷ (8 ∷ 0 ∷ []) ∷ (8 ∷ 0 ∷ []) ∷ []) ++ (((0 ∷ 1 ∷ []) ∷ (0 ∷ 0 ∷ []) ∷ []) ++ ((0 ∷ 1 ∷ []) ∷ [])))))
unfolding rules may_announce judged announced_on announce_panel
may_told ws sound holds = rw (sound, holds, holds) tt

-- 3 before 5, 5 before 11, 11 before 7 and 8.
may_refused : (ws : List ℕ) → sound_words ws ≡ true → ledger_of ws ≡ kept
    → T (equals (asked ws 0 (block 0 0 0 ∷ []) ++ (asked ws 17 (block 7 1 7 ∷ []) ++ (asked ws 2 (block 0 9 9 ∷ block 21 9 0 ∷ block 21 2 7 ∷ block 24 0 2 ∷ []))))
    ((3 ∷ 0 ∷ []) ∷ (3 ∷ 0 ∷ []) ∷ (5 ∷ 0 ∷ []) ∷ (5 ∷ 0 ∷ []) ∷ (11 ∷ 0 ∷ []) ∷ (11 ∷ 0 ∷ []) ∷ []))
unfolding rules may_announce judged announced_on announce_panel
may_refused ws sound holds = rw (sound, holds) tt

-- Of words that are no record: 17, whatever is asked.
may_of_none : (ws : List ℕ) → sound_words ws ≡ false → T (equals (asked ws 0 (block 0 0 0 ∷ [])) ((17 ∷ 0 ∷ []) ∷ []))
unfolding rules announced_on announce_panel
may_of_none ws unsound = rw unsound tt

-- The panel of each answer by itself.
may_panels : T (equals (shown (announce_panel (Ok true)) ∷ shown (announce_panel (Ok false)) ∷ shown (announce_panel (Err refusal.OtherStands)) ∷ [])
    ((0 ∷ 1 ∷ []) ∷ (0 ∷ 0 ∷ []) ∷ (8 ∷ 0 ∷ []) ∷ []))
unfolding rules announce_panel
may_panels = tt
