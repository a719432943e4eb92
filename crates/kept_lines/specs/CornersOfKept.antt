-- Computed cases of a slot's kept certificates: their order by place, both masks of signers, the kinds of a large ring, another slot, room
-- and 9 with the lines needed, 17 before 3 before 9.
use Rattle.std.specs.Prelude.{◌≡◌, true, false, List, [], ◌∷◌, ◌++◌, ℕ, set, T}
use Rattle.rulebook.specs.declared.Accepted.{Accepted}
use Rattle.rulebook.specs.declared.CertificateKind.TheVariants as certificate
use Rattle.rulebook.specs.Certificates.{Kept}
use Rattle.rulebook.specs.Ledger.{Ledger, fresh, certificates_at, put_certificates}
use Rattle.rulebook.specs.Scripts.{equals}
use Rattle.rulebook.specs.Computes.{rules}
use Rattle.record.specs.Layout.{ledger_of}
use Rattle.soundness.specs.Sound.{sound_words}
use Rattle.inquest_lines.specs.Lent.{list_panel}
use Rattle.kept_lines.specs.Told.{told_of, place_told, told_to, certificates_told}
use Rattle.kept_lines.specs.Lent.{Listing, spell_all, listed_in, certificates_on}

-- The panel's number and value, and the lines' words.
abbrev shown : Listing → List (List ℕ)
shown t = let p = list_panel t.answer in (p.number ∷ p.values) ∷ t.words ∷ []

abbrev kept : ℕ → ℕ → ℕ → Kept
kept b a m = record { block = b; maska = a; maskb = m }

-- Stakes 1 to 5. Slot 3 keeps a final certificate, a notar certificate for 7, one of skips and fallbacks, and notar-fallback certificates for 9
-- and then for 7.
abbrev bare : Ledger
bare = fresh (1 ∷ 2 ∷ 3 ∷ 4 ∷ 5 ∷ []) 0 1

abbrev filled : Ledger
filled =
    put_certificates bare 3 (set (set (set (set (set (certificates_at bare 3) 3 (kept 0 22 0)) 1 (kept 7 25 0)) 2 (kept 0 12 16)) 4 (kept 9 28 0)) 5 (kept 7 8 16))

-- Kinds 2, 4 and 5, then those of kind 3 as they came: five lines in 25 words and in more, 24 are too few. Another slot keeps none.
corners_of_kept : T (equals (shown (listed_in 25 5 (certificates_told filled 3)) ++ (shown (listed_in 24 5 (certificates_told filled 3)) ++ shown (listed_in 0 5 (certificates_told filled 4))))
    ((0 ∷ 5 ∷ []) ∷ ((2 ∷ 3 ∷ 7 ∷ 3 ∷ 10 ∷ []) ++ ((4 ∷ 3 ∷ 0 ∷ 3 ∷ 12 ∷ []) ++ ((5 ∷ 3 ∷ 0 ∷ 3 ∷ 10 ∷ []) ++ ((3 ∷ 3 ∷ 9 ∷ 3 ∷ 12 ∷ []) ++ (3 ∷ 3 ∷ 7 ∷ 2 ∷ 9 ∷ [])))))
    ∷ (9 ∷ 5 ∷ []) ∷ []
    ∷ (0 ∷ 0 ∷ []) ∷ [] ∷ []))
unfolding rules told_of place_told told_to certificates_told spell_all listed_in list_panel
corners_of_kept = tt

-- The kind's number is that of the ring's family: of 64 nodes 1, of 65 nodes 11.
abbrev fast : Accepted
fast = record { kind = certificate.FastFinal; slot = record { 0 = 16 }; block = 7; signers = 60; weight = record { 0 = 61 } }

corners_of_families : T (equals (shown (listed_in 5 64 (fast ∷ [])) ++ shown (listed_in 5 65 (fast ∷ [])))
    ((0 ∷ 1 ∷ []) ∷ (1 ∷ 16 ∷ 7 ∷ 60 ∷ 61 ∷ []) ∷ (0 ∷ 1 ∷ []) ∷ (11 ∷ 16 ∷ 7 ∷ 60 ∷ 61 ∷ []) ∷ []))
unfolding rules spell_all listed_in list_panel
corners_of_families = tt

-- Of words that hold it that is answered; 3 for no slot, before 9.
kept_told : (ws : List ℕ) (room : ℕ) → sound_words ws ≡ true → ledger_of ws ≡ filled → certificates_on ws 3 room ≡ listed_in room 5 (certificates_told filled 3)
unfolding rules certificates_on
kept_told ws room sound holds = rw (sound, holds)

no_slot : (ws : List ℕ) → sound_words ws ≡ true → T (equals (shown (certificates_on ws 0 0) ++ shown (certificates_on ws 17 0)) ((3 ∷ 0 ∷ []) ∷ [] ∷ (3 ∷ 0 ∷ []) ∷ [] ∷ []))
unfolding rules certificates_on list_panel
no_slot ws sound = rw sound tt

-- Of words that are no record: 17, whatever the slot, before 9.
bad_words : (ws : List ℕ) → sound_words ws ≡ false → T (equals (shown (certificates_on ws 0 0)) ((17 ∷ 0 ∷ []) ∷ [] ∷ []))
unfolding rules certificates_on list_panel
bad_words ws unsound = rw unsound tt
