-- Computed cases of what inner functions answer: a slot asked of words, two lent records that may be compared, an own vote's line.
use Rattle.std.specs.Prelude.{◌≡◌, true, false, List, [], ◌∷◌, ℕ, T, Ok, Err}
use Rattle.rulebook.specs.declared.Refusal.TheVariants as refusal
use Rattle.rulebook.specs.declared.VoteKind.TheVariants as kind
use Rattle.rulebook.specs.PaperNumbers.{answer_number}
use Rattle.rulebook.specs.Ledger.{fresh}
use Rattle.rulebook.specs.Scripts.{equals}
use Rattle.rulebook.specs.Computes.{rules}
use Rattle.record.specs.Layout.{ledger_of}
use Rattle.soundness.specs.Sound.{sound_words}
use Rattle.cards.specs.Asked.{asked_on}
use Rattle.difference_lines.specs.declared.Side.TheVariants as side
use Rattle.difference_lines.specs.Lines.{same_tables}
use Rattle.differences.specs.Both.{both_sound}
use Rattle.inquest_lines.specs.declared.ListRefusal.TheVariants as why
use Rattle.inquest_lines.specs.Lent.{spell_lines}
use Rattle.standing.specs.Asked.{line_on}
use Rattle.vouching.specs.Asked.{comparable_on}

-- A slot from 1 to 16 may be asked, no other; of words that are no record none, 17 before 3.
asked_told : (ws : List ℕ) → sound_words ws ≡ true
    → T (equals ((answer_number (asked_on ws 1) ∷ answer_number (asked_on ws 16) ∷ answer_number (asked_on ws 0) ∷ answer_number (asked_on ws 17) ∷ []) ∷ []) ((0 ∷ 0 ∷ 3 ∷ 3 ∷ []) ∷ []))
unfolding rules asked_on
asked_told ws sound = rw sound tt

asked_of_none : (ws : List ℕ) → sound_words ws ≡ false → T (equals ((answer_number (asked_on ws 1) ∷ answer_number (asked_on ws 0) ∷ []) ∷ []) ((17 ∷ 17 ∷ []) ∷ []))
unfolding rules asked_on
asked_of_none ws unsound = rw unsound tt

-- Two records are both; else the side of the one that is none is named, the first where both are none.
both_told : (one two : List ℕ) → sound_words one ≡ true → sound_words two ≡ true → both_sound one two ≡ Ok tt
unfolding rules both_sound
both_told one two a b = rw (a, b)

second_named : (one two : List ℕ) → sound_words one ≡ true → sound_words two ≡ false → both_sound one two ≡ Err side.Second
unfolding rules both_sound
second_named one two a b = rw (a, b)

first_named : (one two : List ℕ) → sound_words one ≡ false → both_sound one two ≡ Err side.First
unfolding rules both_sound
first_named one two a = rw a

-- Records of one table may be compared: not words that are no record, 17 with the side, nor records of two tables, 1.
comparable_told : (one two : List ℕ) → sound_words one ≡ true → sound_words two ≡ true → ledger_of one ≡ fresh (6 ∷ 4 ∷ []) 0 1 → ledger_of two ≡ fresh (6 ∷ 4 ∷ []) 1 1 → comparable_on one two ≡ Ok tt
unfolding rules same_tables comparable_on
comparable_told one two a b c d = rw (a, b, c, d)

tables_compared : (one two : List ℕ) → sound_words one ≡ true → sound_words two ≡ true → ledger_of one ≡ fresh (6 ∷ 4 ∷ []) 0 1 → ledger_of two ≡ fresh (6 ∷ 5 ∷ []) 1 1 → comparable_on one two ≡ Err (why.Refused refusal.BadSizes)
unfolding rules same_tables comparable_on
tables_compared one two a b c d = rw (a, b, c, d)

second_not_comparable : (one two : List ℕ) → sound_words one ≡ true → sound_words two ≡ false → comparable_on one two ≡ Err (why.BadRecord side.Second)
unfolding rules comparable_on
second_not_comparable one two a b = rw (a, b)

first_not_comparable : (one two : List ℕ) → sound_words one ≡ false → comparable_on one two ≡ Err (why.BadRecord side.First)
unfolding rules comparable_on
first_not_comparable one two a = rw a

-- The line of node 3's notar vote for 7 in slot 16, which rule 2 casts: its five words.
line_told : T (equals (spell_lines (line_on 3 (record { 0 = 16 }) kind.Notar 7 2 ∷ []) ∷ []) ((16 ∷ 3 ∷ 1 ∷ 7 ∷ 2 ∷ []) ∷ []))
unfolding rules spell_lines
line_told = tt
