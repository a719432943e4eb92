-- Computed cases of what a step leaves in lent memory: records from the outbox's front, words past them, the record's words, and all as
-- found where a step is refused.
use Rattle.std.specs.Prelude.{◌≡◌, true, false, List, [], ◌∷◌, ◌++◌, ℕ, replicate, T, Err}
use Rattle.rulebook.specs.declared.Input.{Input}
use Rattle.rulebook.specs.declared.Refusal.TheVariants as refusal
use Rattle.rulebook.specs.PaperNumbers.{step_panel}
use Rattle.rulebook.specs.Ledger.{fresh}
use Rattle.rulebook.specs.Scripts.{vote, block, equals}
use Rattle.rulebook.specs.Computes.{rules}
use Rattle.record.specs.Layout.{mask_words, ledger_of}
use Rattle.record.specs.Spelling.{joined, spell_mask, words_of, is_spelled}
use Rattle.node.specs.Stepping.{Leaves, spelled, step_leaves}

-- The panel's number and value, the record's words, and the outbox's.
abbrev shown : Leaves → List (List ℕ)
shown v = let p = step_panel v.answer in (p.number ∷ p.values) ∷ v.words ∷ v.outbox ∷ []

-- An outbox of so many words.
abbrev lent : ℕ → List ℕ
lent n = replicate n 99

-- The words of a node alone with stake 5 and genesis 1: its head, the row of slot 0, and 15 blank rows after that of slot 1.
abbrev alone : List ℕ → List ℕ → List ℕ
alone armed row = (1 ∷ 5 ∷ 0 ∷ 1 ∷ []) ++ (armed ++ ((5 ∷ []) ++ (replicate 66 0 ++ (row ++ replicate 990 0))))

-- Of words that hold it fresh, and an outbox of 484 words: block 7 leaves four records in it, and stands in the row of slot 1 with the
-- own notar and final votes, the final block and the card. A vote in the own name leaves all as found, and so does an outbox of 479.
step_left : (ws : List ℕ) → is_spelled ws ≡ true → ledger_of ws ≡ fresh (5 ∷ []) 0 1
    → T (equals (shown (step_leaves ws (lent 484) (block 1 7 0 1)) ++ (shown (step_leaves ws (lent 484) (vote 1 0 1 7)) ++ shown (step_leaves ws (lent 479) (block 1 7 0 1))))
    ((0 ∷ 4 ∷ [])
    ∷ alone (1 ∷ 0 ∷ 0 ∷ 0 ∷ []) ((7 ∷ 0 ∷ 1 ∷ []) ++ (replicate 9 0 ++ ((0 ∷ 7 ∷ 0 ∷ 0 ∷ 5 ∷ 0 ∷ 7 ∷ 5 ∷ []) ++ (replicate 39 0 ++ (7 ∷ 0 ∷ 0 ∷ 0 ∷ 0 ∷ 0 ∷ 1 ∷ [])))))
    ∷ ((7 ∷ 1 ∷ 0 ∷ 1 ∷ 1 ∷ 7 ∷ 5 ∷ 1 ∷ 0 ∷ 6 ∷ 1 ∷ 7 ∷ []) ++ lent 472)
    ∷ (6 ∷ 0 ∷ []) ∷ alone (replicate 4 0) (replicate 66 0) ∷ lent 484
    ∷ (9 ∷ 0 ∷ []) ∷ alone (replicate 4 0) (replicate 66 0) ∷ lent 479 ∷ []))
unfolding rules mask_words joined spell_mask words_of spelled step_leaves
step_left ws whole holds = rw (whole, holds) tt

-- Words that spell no ledger are 17, whatever the input and the outbox, and stay.
unread_left : (ws out : List ℕ) (i : Input) → is_spelled ws ≡ false
    → step_leaves ws out i ≡ record { answer = Err refusal.BadRecord; words = ws; outbox = out }
unfolding rules step_leaves
unread_left ws out i broken = rw broken
