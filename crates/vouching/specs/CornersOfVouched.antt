-- Computed cases of what a firm's record lacks: stored votes and certificates of either mask, their order, a watcher, room and refusals.
use Rattle.std.specs.Prelude.{◌≡◌, true, false, List, [], ◌∷◌, ◌++◌, ℕ, set, T}
use Rattle.rulebook.specs.Certificates.{Kept}
use Rattle.rulebook.specs.Ledger.{Ledger, fresh, certificates_at, put_certificates}
use Rattle.rulebook.specs.Scripts.{vote, stored, equals}
use Rattle.rulebook.specs.Computes.{rules}
use Rattle.record.specs.Layout.{ledger_of}
use Rattle.soundness.specs.Sound.{sound_words}
use Rattle.difference_lines.specs.Lines.{side_number, same_tables}
use Rattle.inquest.specs.Stands.{none_or}
use Rattle.inquest.specs.Lists.{unless, lines_to, cell_lacks, signer_lacks, place_lacks, kept_lacks, slot_lacks, lacking}
use Rattle.inquest_lines.specs.Lent.{Told, spell_lines, listed_in, list_panel}
use Rattle.vouching.specs.Asked.{lacking_of, vouched_on}

-- The panel's number and value, and the lines' words.
abbrev shown : Told → List (List ℕ)
shown t = let p = list_panel t.answer in (p.number ∷ p.values) ∷ t.words ∷ []

-- A ring of two: firm 0 stored three votes of firm 1 in slot 3, and keeps there a certificate of kind 2 and one of kind 3 that counts
-- firm 1 by mask B.
abbrev kept : ℕ → ℕ → ℕ → Kept
kept b a m = record { block = b; maska = a; maskb = m }

abbrev votes_alone : Ledger
votes_alone = stored (fresh (6 ∷ 4 ∷ []) 0 1) (vote 1 1 3 7 ∷ vote 2 1 3 9 ∷ vote 5 1 3 0 ∷ [])

abbrev first : Ledger
first = put_certificates votes_alone 3 (set (set (certificates_at votes_alone 3) 1 (kept 7 3 0)) 4 (kept 9 1 2))

-- Firm 1 tells of one of them, of all, or of none; a watcher has no firm.
abbrev second : Ledger
second = stored (fresh (6 ∷ 4 ∷ []) 1 1) (vote 1 1 3 7 ∷ [])

abbrev whole : Ledger
whole = stored second (vote 2 1 3 9 ∷ vote 5 1 3 0 ∷ [])

abbrev watcher : Ledger
watcher = fresh (6 ∷ 4 ∷ []) 2 1

-- Stored votes come before certificates, with source 0; what is told is not listed; one word too few is 9 with the lines needed; whoever
-- tells of all, and a watcher, lack nothing. The first counts nothing that its own cell lacks, but for the certificates.
corners_of_vouched : T (equals (shown (listed_in 15 (lacking_of first second)) ++ (shown (listed_in 14 (lacking_of first second)) ++ (shown (listed_in 0 (lacking_of first whole)) ++ (shown (listed_in 0 (lacking_of first watcher)) ++ (shown (listed_in 0 (lacking_of second votes_alone)) ++ shown (listed_in 99 (lacking_of first first)))))))
    ((0 ∷ 3 ∷ []) ∷ ((3 ∷ 1 ∷ 2 ∷ 9 ∷ 0 ∷ []) ++ (3 ∷ 1 ∷ 5 ∷ 0 ∷ 0 ∷ []) ++ (3 ∷ 1 ∷ 2 ∷ 9 ∷ 3 ∷ []))
    ∷ (9 ∷ 3 ∷ []) ∷ []
    ∷ (0 ∷ 0 ∷ []) ∷ []
    ∷ (0 ∷ 0 ∷ []) ∷ []
    ∷ (0 ∷ 0 ∷ []) ∷ []
    ∷ (0 ∷ 2 ∷ []) ∷ ((3 ∷ 0 ∷ 1 ∷ 7 ∷ 2 ∷ []) ++ (3 ∷ 0 ∷ 1 ∷ 9 ∷ 3 ∷ [])) ∷ []))
unfolding rules none_or unless lines_to cell_lacks signer_lacks place_lacks kept_lacks slot_lacks lacking spell_lines listed_in list_panel lacking_of
corners_of_vouched = tt

-- Of words that hold two ledgers that is answered, the second's firm being asked.
vouched_told : (one two : List ℕ) (room : ℕ) → sound_words one ≡ true → sound_words two ≡ true → ledger_of one ≡ first → ledger_of two ≡ second
    → vouched_on one two room ≡ listed_in room (lacking_of first second)
unfolding rules vouched_on same_tables
vouched_told one two room a b c d = rw (a, b, c, d)

-- 17 and the side whose words are no record, the first side where both are none; then 1 where the tables differ; both before 9.
refused_sides : (good bad other : List ℕ) → sound_words good ≡ true → sound_words bad ≡ false → sound_words other ≡ true → ledger_of good ≡ first → ledger_of other ≡ fresh (6 ∷ 5 ∷ []) 1 1
    → T (equals (shown (vouched_on bad good 0) ++ (shown (vouched_on good bad 0) ++ (shown (vouched_on bad bad 0) ++ shown (vouched_on good other 0))))
    ((17 ∷ 1 ∷ []) ∷ [] ∷ (17 ∷ 2 ∷ []) ∷ [] ∷ (17 ∷ 1 ∷ []) ∷ [] ∷ (1 ∷ 0 ∷ []) ∷ [] ∷ []))
unfolding rules side_number same_tables spell_lines list_panel vouched_on
refused_sides good bad other a b c d e = rw (a, b, c, d, e) tt
