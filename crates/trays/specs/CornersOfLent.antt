-- Computed cases of what a tray leaves in lent memory: records from the outbox's front, numbers from the answer buffer's, the words past
-- them, and all as found where a tray is refused.
use Rattle.std.specs.Prelude.{◌≡◌, true, false, List, [], ◌∷◌, ◌++◌, ℕ, replicate, T, Err}
use Rattle.rulebook.specs.declared.Refusal.TheVariants as refusal
use Rattle.rulebook.specs.PaperNumbers.{step_panel}
use Rattle.rulebook.specs.Ledger.{fresh}
use Rattle.rulebook.specs.Scripts.{equals}
use Rattle.rulebook.specs.Computes.{rules}
use Rattle.record.specs.Layout.{mask_words, ledger_of}
use Rattle.record.specs.Spelling.{joined, spell_mask, words_of, is_spelled}
use Rattle.node.specs.Stepping.{spelled}
use Rattle.tray_rules.specs.Trays.{votes_in, serve, tray_refused, tray_served, tray}
use Rattle.trays.specs.Lent.{Leaves, tray_leaves}

-- The panel's number and value, the record's words, the outbox's, and the answer buffer's.
abbrev shown : Leaves → List (List ℕ)
shown v = let p = step_panel v.answer in (p.number ∷ p.values) ∷ v.words ∷ v.outbox ∷ v.answers ∷ []

-- A lent buffer of so many words, and another.
abbrev lent : ℕ → List ℕ
lent n = replicate n 99

abbrev places : ℕ → List ℕ
places n = replicate n 88

-- The words of a watcher of one node with stake 5 and genesis 1, the row of slot 1 given: 66 words a row.
abbrev watcher : List ℕ → List ℕ → List ℕ
watcher armed row = (1 ∷ 5 ∷ 1 ∷ 1 ∷ []) ++ (armed ++ ((5 ∷ []) ++ (replicate 66 0 ++ (row ++ replicate 990 0))))

-- The node's vote for block 7 of slot 1, the same again, and its final vote.
abbrev run : List ℕ
run = (1 ∷ 0 ∷ 1 ∷ 7 ∷ []) ++ ((1 ∷ 0 ∷ 1 ∷ 7 ∷ []) ++ (5 ∷ 0 ∷ 1 ∷ 0 ∷ []))

-- Of words that hold it fresh, an outbox of 484 words and five places for answers: two records and three numbers. A part of a vote at the
-- end, and two places for three votes, leave all as found.
tray_left : (ws : List ℕ) → is_spelled ws ≡ true → ledger_of ws ≡ fresh (5 ∷ []) 1 1
    → T (equals (shown (tray_leaves ws (lent 484) run (places 5)) ++ (shown (tray_leaves ws (lent 484) (run ++ (1 ∷ [])) (places 5)) ++ shown (tray_leaves ws (lent 484) run (places 2))))
    ((0 ∷ 2 ∷ []) ∷ watcher (1 ∷ 0 ∷ 0 ∷ 0 ∷ []) (replicate 13 0 ++ ((7 ∷ 0 ∷ 0 ∷ 5 ∷ 0 ∷ 7 ∷ 5 ∷ []) ++ (replicate 39 0 ++ (7 ∷ 0 ∷ 0 ∷ 0 ∷ 0 ∷ 0 ∷ 1 ∷ []))))
    ∷ ((7 ∷ 1 ∷ 0 ∷ 6 ∷ 1 ∷ 7 ∷ []) ++ lent 478) ∷ ((0 ∷ 7 ∷ 0 ∷ []) ++ places 2)
    ∷ (12 ∷ 0 ∷ []) ∷ watcher (replicate 4 0) (replicate 66 0) ∷ lent 484 ∷ places 5
    ∷ (9 ∷ 0 ∷ []) ∷ watcher (replicate 4 0) (replicate 66 0) ∷ lent 484 ∷ places 2 ∷ []))
unfolding rules mask_words joined spell_mask words_of spelled votes_in serve tray_refused tray_served tray tray_leaves
tray_left ws whole holds = rw (whole, holds) tt

-- Words that spell no ledger are 17, whatever the votes and the buffers, and stay.
unread_left : (ws out votes answers : List ℕ) → is_spelled ws ≡ false
    → tray_leaves ws out votes answers ≡ record { answer = Err refusal.BadRecord; words = ws; outbox = out; answers = answers }
unfolding rules tray_leaves
unread_left ws out votes answers broken = rw broken
