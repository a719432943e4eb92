-- Computed cases of what a packet counts a firm for: one certificate, a proof, either mask, a watcher, room and refusals.
use Rattle.std.specs.Prelude.{◌≡◌, false, List, [], ◌∷◌, ◌++◌, ℕ, T}
use Rattle.rulebook.specs.Ledger.{Ledger, fresh}
use Rattle.rulebook.specs.Scripts.{vote, stored, equals}
use Rattle.rulebook.specs.Computes.{rules}
use Rattle.soundness.specs.Sound.{sound_words}
use Rattle.inquest.specs.Lists.{unless, signer_lacks, found_lacks, next_lacks, lacking_in}
use Rattle.inquest_lines.specs.Lent.{Told, spell_lines, listed_in, list_panel}
use Rattle.vouched_packets.specs.Asked.{end_in, check_packet, packet_lacks, checked_on, packet_on}

-- The panel's number and value, and the lines' words.
abbrev shown : Told → List (List ℕ)
shown t = let p = list_panel t.answer in (p.number ∷ p.values) ∷ t.words ∷ []

-- What is answered under the stakes 6 and 4 to a ledger that 17 lets pass.
abbrev asked : Ledger → List ℕ → ℕ → List (List ℕ)
asked r packet room = shown (checked_on r packet room (check_packet (6 ∷ 4 ∷ []) packet))

-- Firm 1 tells of no vote; of its notar vote for 7 in slot 3; a watcher.
abbrev nothing : Ledger
nothing = fresh (6 ∷ 4 ∷ []) 1 1

abbrev seven : Ledger
seven = stored nothing (vote 1 1 3 7 ∷ [])

abbrev watcher : Ledger
watcher = fresh (6 ∷ 4 ∷ []) 2 1

-- Kind 2 of slot 3 for block 7, signed by both; the proof that it begins; kind 3 for 9, that counts firm 1 by mask B.
abbrev both : List ℕ
both = 2 ∷ 3 ∷ 7 ∷ 3 ∷ 0 ∷ []

abbrev proof : List ℕ
proof = both ++ (5 ∷ 3 ∷ 0 ∷ 3 ∷ 0 ∷ [])

abbrev fallback : List ℕ
fallback = 3 ∷ 3 ∷ 9 ∷ 1 ∷ 2 ∷ []

-- Each vote is a line with its certificate's kind; what is told is not listed; one word too few is 9 with the lines needed.
corners_of_lines : T (equals (asked nothing both 5 ++ (asked nothing proof 10 ++ (asked nothing proof 9 ++ (asked seven proof 99 ++ (asked seven both 0 ++ (asked nothing fallback 5 ++ asked watcher proof 0))))))
    ((0 ∷ 1 ∷ []) ∷ (3 ∷ 1 ∷ 1 ∷ 7 ∷ 2 ∷ [])
    ∷ (0 ∷ 2 ∷ []) ∷ ((3 ∷ 1 ∷ 1 ∷ 7 ∷ 2 ∷ []) ++ (3 ∷ 1 ∷ 5 ∷ 0 ∷ 5 ∷ []))
    ∷ (9 ∷ 2 ∷ []) ∷ []
    ∷ (0 ∷ 1 ∷ []) ∷ (3 ∷ 1 ∷ 5 ∷ 0 ∷ 5 ∷ [])
    ∷ (0 ∷ 0 ∷ []) ∷ []
    ∷ (0 ∷ 1 ∷ []) ∷ (3 ∷ 1 ∷ 2 ∷ 9 ∷ 3 ∷ [])
    ∷ (0 ∷ 0 ∷ []) ∷ [] ∷ []))
unfolding rules unless signer_lacks found_lacks next_lacks lacking_in spell_lines listed_in list_panel end_in check_packet packet_lacks checked_on
corners_of_lines = tt

-- The checker's refusals, with 0 beside: nothing at all, a number that is not shortest, too little stake, a certificate of kind 2 with a
-- byte behind it, and two certificates that are no proof.
corners_of_refusals : T (equals (asked nothing [] 0 ++ (asked nothing (128 ∷ 0 ∷ []) 0 ++ (asked nothing (2 ∷ 3 ∷ 7 ∷ 2 ∷ 0 ∷ []) 0 ++ (asked nothing (both ++ (5 ∷ [])) 0 ++ asked nothing (fallback ++ both) 0))))
    ((12 ∷ 0 ∷ []) ∷ [] ∷ (13 ∷ 0 ∷ []) ∷ [] ∷ (15 ∷ 0 ∷ []) ∷ [] ∷ (12 ∷ 0 ∷ []) ∷ [] ∷ (16 ∷ 0 ∷ []) ∷ [] ∷ []))
unfolding rules unless signer_lacks found_lacks next_lacks lacking_in spell_lines listed_in list_panel end_in check_packet packet_lacks checked_on
corners_of_refusals = tt

-- 17 before all of them.
bad_record : (ws packet : List ℕ) → sound_words ws ≡ false → T (equals (shown (packet_on ws packet 0)) ((17 ∷ 0 ∷ []) ∷ [] ∷ []))
unfolding rules spell_lines list_panel packet_on
bad_record ws packet e = rw e tt
