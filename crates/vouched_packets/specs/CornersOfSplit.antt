-- Computed cases of where a proof's first certificate ends: two certificates, one, what the checker refuses, and 17 before it.
use Rattle.std.specs.Prelude.{◌≡◌, false, List, [], ◌∷◌, ◌++◌, ℕ, T}
use Rattle.rulebook.specs.PaperNumbers.{Panel}
use Rattle.rulebook.specs.Checker.{check_proof}
use Rattle.rulebook.specs.Scripts.{equals}
use Rattle.rulebook.specs.Computes.{rules}
use Rattle.soundness.specs.Sound.{sound_words}
use Rattle.vouched_packets.specs.Asked.{end_in}
use Rattle.vouched_packets.specs.Split.{split_by, split_on, split_panel}

-- An answer's number and the value beside it.
abbrev shown : Panel → List ℕ
shown p = p.number ∷ p.values

-- What is answered under the stakes 6 and 4 to a record that 17 lets pass.
abbrev asked : List ℕ → List ℕ
asked packet = shown (split_panel (split_by packet (check_proof (6 ∷ 4 ∷ []) packet)))

-- Kind 2 of slot 3 for block 300, which has two bytes, signed by both, and kind 5; kind 1.
abbrev notar : List ℕ
notar = 2 ∷ 3 ∷ 172 ∷ 2 ∷ 3 ∷ 0 ∷ []

abbrev final : List ℕ
final = 5 ∷ 3 ∷ 0 ∷ 3 ∷ 0 ∷ []

abbrev fast : List ℕ
fast = 1 ∷ 3 ∷ 7 ∷ 3 ∷ 0 ∷ []

-- Six bytes of eleven, and all five; half a proof is 12, too light a second half 15, its halves the other way round 16, a byte behind it 12.
corners_of_split : T (equals (asked (notar ++ final) ∷ asked fast ∷ asked notar ∷ asked (notar ++ (5 ∷ 3 ∷ 0 ∷ 2 ∷ 0 ∷ [])) ∷ asked (final ++ notar) ∷ asked (fast ++ (0 ∷ [])) ∷ [])
    ((0 ∷ 6 ∷ []) ∷ (0 ∷ 5 ∷ []) ∷ (12 ∷ 0 ∷ []) ∷ (15 ∷ 0 ∷ []) ∷ (16 ∷ 0 ∷ []) ∷ (12 ∷ 0 ∷ []) ∷ []))
unfolding rules end_in split_by split_panel
corners_of_split = tt

-- 17 before all of them.
split_of_none : (ws packet : List ℕ) → sound_words ws ≡ false → T (equals (shown (split_panel (split_on ws packet)) ∷ []) ((17 ∷ 0 ∷ []) ∷ []))
unfolding rules split_on split_panel
split_of_none ws packet e = rw e tt
