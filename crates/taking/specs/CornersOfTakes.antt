-- Computed cases of what taking a certificate packet leaves in lent memory, and of the certificate at a packet's front.
use Rattle.std.specs.Prelude.{◌≡◌, true, false, List, [], ◌∷◌, ◌++◌, ℕ, replicate, T, Err}
use Rattle.rulebook.specs.declared.Refusal.TheVariants as refusal
use Rattle.rulebook.specs.PaperNumbers.{step_panel}
use Rattle.rulebook.specs.Ledger.{fresh}
use Rattle.rulebook.specs.Scripts.{equals}
use Rattle.rulebook.specs.Computes.{rules}
use Rattle.record.specs.Layout.{mask_words, ledger_of}
use Rattle.record.specs.Spelling.{joined, spell_mask, words_of, is_spelled}
use Rattle.node.specs.Stepping.{Leaves, spelled}
use Rattle.taking.specs.Taking.{take_leaves, found_in, certificate_in}

-- The panel's number and value, the record's words, and the outbox's.
abbrev shown : Leaves → List (List ℕ)
shown v = let p = step_panel v.answer in (p.number ∷ p.values) ∷ v.words ∷ v.outbox ∷ []

-- An outbox of so many words.
abbrev lent : ℕ → List ℕ
lent n = replicate n 99

-- The words of a node alone with stake 5 and genesis 1, the row of slot 2 given: 66 words a row.
abbrev alone : List ℕ → List ℕ → List ℕ
alone armed row = (1 ∷ 5 ∷ 0 ∷ 1 ∷ []) ++ (armed ++ ((5 ∷ []) ++ (replicate 132 0 ++ (row ++ replicate 924 0))))

-- Of words that hold it fresh, and an outbox of 484 words: a kind 1 certificate for block 7 of slot 2 arms the first window and makes 7
-- final. It stands in the first of the row's 13 places, with its masks. A packet too light, and an outbox of 479, leave all as found.
take_left : (ws : List ℕ) → is_spelled ws ≡ true → ledger_of ws ≡ fresh (5 ∷ []) 0 1
    → T (equals (shown (take_leaves ws (lent 484) (1 ∷ 2 ∷ 7 ∷ 1 ∷ 0 ∷ [])) ++ (shown (take_leaves ws (lent 484) (1 ∷ 2 ∷ 7 ∷ 0 ∷ 0 ∷ [])) ++ shown (take_leaves ws (lent 479) (1 ∷ 2 ∷ 7 ∷ 1 ∷ 0 ∷ []))))
    ((0 ∷ 2 ∷ []) ∷ alone (1 ∷ 0 ∷ 0 ∷ 0 ∷ []) (replicate 13 0 ++ ((7 ∷ []) ++ (replicate 6 0 ++ ((7 ∷ 1 ∷ []) ++ replicate 44 0)))) ∷ ((7 ∷ 1 ∷ 0 ∷ 6 ∷ 2 ∷ 7 ∷ []) ++ lent 478)
    ∷ (15 ∷ 0 ∷ []) ∷ alone (replicate 4 0) (replicate 66 0) ∷ lent 484
    ∷ (9 ∷ 0 ∷ []) ∷ alone (replicate 4 0) (replicate 66 0) ∷ lent 479 ∷ []))
unfolding rules mask_words joined spell_mask words_of spelled take_leaves
take_left ws whole holds = rw (whole, holds) tt

-- Words that spell no ledger are 17, whatever the packet and the outbox, and stay.
unread_left : (ws out packet : List ℕ) → is_spelled ws ≡ false
    → take_leaves ws out packet ≡ record { answer = Err refusal.BadRecord; words = ws; outbox = out }
unfolding rules take_leaves
unread_left ws out packet broken = rw broken

-- The five numbers at a packet's front; all 0 where it ends early or is malformed.
abbrev front : List ℕ → List ℕ
front packet = let c = certificate_in packet in c.kind ∷ c.slot ∷ c.block ∷ c.maska ∷ c.maskb ∷ []

fronts : T (equals (front (3 ∷ 2 ∷ 7 ∷ 6 ∷ 1 ∷ 9 ∷ []) ∷ front (3 ∷ 2 ∷ 7 ∷ 6 ∷ []) ∷ front (3 ∷ 2 ∷ 7 ∷ 128 ∷ 0 ∷ 1 ∷ []) ∷ [])
    ((3 ∷ 2 ∷ 7 ∷ 6 ∷ 1 ∷ []) ∷ (0 ∷ 0 ∷ 0 ∷ 0 ∷ 0 ∷ []) ∷ (0 ∷ 0 ∷ 0 ∷ 0 ∷ 0 ∷ []) ∷ []))
unfolding rules found_in certificate_in
fronts = tt
