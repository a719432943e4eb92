-- Computed cases of a block's weights: a node with both votes once, fallbacks that rule D does not count, what is missing by each of rule D's
-- ways and the less of the two, the leftover fifths, 17 before 3 before 5, zeros beside a refusal.
use Rattle.std.specs.Prelude.{◌≡◌, true, false, List, [], ◌∷◌, ◌++◌, ℕ, T}
use Rattle.rulebook.specs.PaperNumbers.{Panel}
use Rattle.rulebook.specs.Ledger.{Ledger, fresh}
use Rattle.rulebook.specs.Scripts.{vote, stored, equals, equal}
use Rattle.rulebook.specs.Computes.{rules}
use Rattle.record.specs.Layout.{ledger_of}
use Rattle.soundness.specs.Sound.{sound_words}
use Rattle.readers.specs.Asked.{on_slot}
use Rattle.readers.specs.Weighed.{missing_d, weights_kept, weights_on, weights_panel}

-- An answer's number and the values beside it.
abbrev shown : Panel → List ℕ
shown p = p.number ∷ p.values

-- Of ten nodes of stake 1, node 1 has a notar and a notar-fallback for 7 in slot 2, node 2 a notar for 8 and a fallback for 7, nodes 3 to 6
-- skips; of them node 6 has a skip-fallback too. In slot 3 node 1 alone has a skip-fallback.
abbrev voted : Ledger
voted =
    stored (fresh (1 ∷ 1 ∷ 1 ∷ 1 ∷ 1 ∷ 1 ∷ 1 ∷ 1 ∷ 1 ∷ 1 ∷ []) 0 1)
    (vote 1 1 2 7 ∷ vote 2 1 2 7 ∷ vote 1 2 2 8 ∷ vote 2 2 2 7 ∷ vote 3 3 2 0 ∷ vote 3 4 2 0 ∷ vote 3 5 2 0 ∷ vote 3 6 2 0 ∷ vote 4 6 2 0 ∷ vote 4 1 3 0 ∷ [])

-- Of words that hold it: the weights of 7, 8 and of a block that no vote names; another slot; 3 for no slot, whatever the block; 5.
weights_told : (ws : List ℕ) → sound_words ws ≡ true → ledger_of ws ≡ voted
    → T (equals (shown (weights_panel (weights_on ws 2 7)) ∷ shown (weights_panel (weights_on ws 2 8)) ∷ shown (weights_panel (weights_on ws 2 9)) ∷ shown (weights_panel (weights_on ws 3 7)) ∷ shown (weights_panel (weights_on ws 0 0)) ∷ shown (weights_panel (weights_on ws 17 7)) ∷ shown (weights_panel (weights_on ws 2 0)) ∷ [])
    ((0 ∷ 1 ∷ 2 ∷ 4 ∷ 1 ∷ []) ∷ (0 ∷ 1 ∷ 1 ∷ 4 ∷ 1 ∷ []) ∷ (0 ∷ 0 ∷ 0 ∷ 4 ∷ 2 ∷ []) ∷ (0 ∷ 0 ∷ 0 ∷ 0 ∷ 4 ∷ []) ∷ (3 ∷ 0 ∷ 0 ∷ 0 ∷ 0 ∷ []) ∷ (3 ∷ 0 ∷ 0 ∷ 0 ∷ 0 ∷ []) ∷ (5 ∷ 0 ∷ 0 ∷ 0 ∷ 0 ∷ []) ∷ []))
unfolding rules on_slot missing_d weights_kept weights_on weights_panel
weights_told ws sound holds = rw (sound, holds) tt

-- Of words that are no record: 17, whatever the slot and the block.
weights_of_none : (ws : List ℕ) → sound_words ws ≡ false → T (equals (shown (weights_panel (weights_on ws 0 0)) ∷ []) ((17 ∷ 0 ∷ 0 ∷ 0 ∷ 0 ∷ []) ∷ []))
unfolding rules on_slot weights_on weights_panel
weights_of_none ws unsound = rw unsound tt

-- Of a total of ten: 40 reached by itself; 20 and 60 reached; to 40 is less than to 60; to 60 with 20 reached; to 20 with 60 reached; the
-- larger of the two. Of eleven: 5, 3 and 7 are 40, 20 and 60 percent, rounded up.
missing_figures : T (equal (missing_d 10 4 0 ∷ missing_d 10 2 4 ∷ missing_d 10 3 0 ∷ missing_d 10 2 3 ∷ missing_d 10 1 6 ∷ missing_d 10 0 5 ∷ missing_d 10 1 3 ∷ missing_d 10 0 0 ∷ [])
    (0 ∷ 0 ∷ 1 ∷ 1 ∷ 1 ∷ 2 ∷ 2 ∷ 4 ∷ []))
unfolding rules missing_d
missing_figures = tt

missing_eleven : T (equal (missing_d 11 4 0 ∷ missing_d 11 5 0 ∷ missing_d 11 2 6 ∷ missing_d 11 3 3 ∷ missing_d 11 3 4 ∷ []) (1 ∷ 0 ∷ 1 ∷ 1 ∷ 0 ∷ []))
unfolding rules missing_d
missing_eleven = tt
