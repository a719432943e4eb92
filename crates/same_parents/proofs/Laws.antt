-- Lines of blocks put one after another, how many there can be, and the whole list or 9. Assumes nothing.
use mathlib.Core.Path.{◌≡◌, refl, sym, ap}
use mathlib.Core.Bool.{true, false}
use mathlib.Core.List.{List, [], ◌∷◌, ◌++◌}
use Prim.Native.Nat.{ℕ, zero, suc, ◌+◌, ◌*◌, ◌≤◌, ◌<◌}
use native.Mathlib.Omega.{arith}
use native.Mathlib.Numerals.{add-one}
use lib.ListN.{length, get_or, length-append}
use Rattle.rulebook.specs.declared.Block.{Block}
use Rattle.rulebook.specs.Weights.{last_slot}
use Rattle.rulebook.specs.Ledger.{Ledger, most_blocks, no_block, blocks_at}
use Rattle.rule_laws.proofs.ToolLaws.{given_on, given_off, by_test}
use Rattle.record.specs.Layout.{ledger_of}
use Rattle.record.proofs.Reading.{ledger_shaped}
use Rattle.soundness.proofs.Laws.{sound_long}
use Rattle.difference_lines.specs.declared.Side.TheVariants as side
use Rattle.differences.specs.Lent.{Sounds}
use Rattle.inquest.specs.Vouched.{one_block}
use Rattle.differences.proofs.Rows.{Spelled, spelled_by}
pub use Rattle.differences.proofs.Rows.{laid_none, laid_then, laid_as}
use Rattle.inquest_lines.specs.Lent.{Told}
use Rattle.same_parents.specs.declared.ParentLine.{ParentLine}
use Rattle.same_parents.specs.Parents.{line_of, spell_line, spell_lines, lines_to, pair_lines, place_lines, block_lines, slot_lines, twice, twice_in, Laid, most_lines, InBoth}

-- ---- one run of lines after another

pub spelled : Spelled spell_lines
unfolding spell_lines
spelled = spelled_by spell_line (λ x. refl) refl (λ x xs. refl)

-- ---- the loops

pub first_put : (list : List ℕ) (at : ℕ) (f : ℕ → List ParentLine) → Laid list at (lines_to 0 f) list at
unfolding lines_to
first_put list at f = laid_none spelled list at

to_more : (n : ℕ) (f : ℕ → List ParentLine) → lines_to (n + 1) f ≡ lines_to n f ++ f n
unfolding lines_to
to_more n f = rw add-one

module _ {list now : List ℕ} {at next : ℕ} (f : ℕ → List ParentLine) (n : ℕ) (w : Laid list at (lines_to n f) now next) where
  pub next_put : {now' : List ℕ} {next' : ℕ} → Laid now next (f n) now' next' → Laid list at (lines_to (n + 1) f) now' next'
  next_put v = laid_as (sym (to_more n f)) (laid_then spelled w v)

  pub next_last : (m : ℕ) → n ≡ m → Laid list at (lines_to m f) now next
  next_last m e = laid_as (ap (λ (k : ℕ). lines_to k f) e) w

-- ---- a pair of places

module _ (s : ℕ) (a b : Block) where
  abbrev both : List ParentLine
  both = line_of s a side.First ∷ line_of s b side.Second ∷ []

  pub pair_none : {list : List ℕ} {at : ℕ} → one_block a b ≡ true → Laid list at (pair_lines s a b) list at
  unfolding pair_lines
  pair_none {list} {at} e = laid_as (sym (given_on (one_block a b) both (λ _. []) e)) (laid_none spelled list at)

  pub pair_put : {l m r : List ℕ} {at p q : ℕ} → one_block a b ≡ false → Laid l at (line_of s a side.First ∷ []) m p → Laid m p (line_of s b side.Second ∷ []) r q
      → Laid l at (pair_lines s a b) r q
  unfolding pair_lines
  pair_put e w v = laid_as (sym (given_off (one_block a b) both (λ _. []) e)) (laid_then spelled w v)

  pair_most : length (pair_lines s a b) ≤ 2
  unfolding pair_lines
  pair_most =
      by_test (one_block a b) (λ e. rw (given_on (one_block a b) both (λ _. []) e) (omega arith)) (λ e. rw (given_off (one_block a b) both (λ _. []) e) (omega arith))

-- ---- how many lines

-- So many lines, where each part below n has k at most.
below_most : (n k : ℕ) (f : ℕ → List ParentLine) → ((i : ℕ) → i < n → length (f i) ≤ k) → length (lines_to n f) ≤ k * n
unfolding lines_to
below_most zero k f h = omega arith
below_most (suc n) k f h = omega (arith, length-append (lines_to n f) (f n), h n (omega arith), below_most n k f (λ i j. h i (omega arith)))

module _ (s : ℕ) (a : Block) (bs : List Block) where
  -- The lines of the first record's place beside place j.
  abbrev pub pair_at : ℕ → List ParentLine
  pair_at j = pair_lines s a (get_or bs j no_block)

  pub pairs_most : (n : ℕ) → length (lines_to n pair_at) ≤ 2 * n
  pairs_most n = below_most n 2 pair_at (λ j h. pair_most s a (get_or bs j no_block))

  pub place_put : {list left : List ℕ} {at next : ℕ} (n : ℕ) → n ≡ length bs → Laid list at (lines_to n pair_at) left next → Laid list at (place_lines s a bs) left next
  unfolding place_lines
  place_put n e w = next_last pair_at n w (length bs) e

  pub place_most : length bs ≡ most_blocks → length (place_lines s a bs) ≤ 8
  unfolding place_lines
  place_most e = omega (arith, e, pairs_most (length bs))

module _ (s : ℕ) (ks bs : List Block) where
  -- The lines of place i.
  abbrev pub place_at : ℕ → List ParentLine
  place_at i = place_lines s (get_or ks i no_block) bs

  pub places_most : (n : ℕ) → length bs ≡ most_blocks → length (lines_to n place_at) ≤ 8 * n
  places_most n e = below_most n 8 place_at (λ i h. place_most s (get_or ks i no_block) bs e)

  blocks_most : length ks ≡ most_blocks → length bs ≡ most_blocks → length (block_lines s ks bs) ≤ 32
  unfolding block_lines
  blocks_most d e = omega (arith, d, e, places_most (length ks) e)

module _ (l r : Ledger) (s : ℕ) where
  pub slot_put : {list left : List ℕ} {at next : ℕ} (n : ℕ) → n ≡ length (blocks_at l s) → Laid list at (lines_to n (place_at s (blocks_at l s) (blocks_at r s))) left next
      → Laid list at (slot_lines l r s) left next
  unfolding slot_lines block_lines
  slot_put n e w = next_last (place_at s (blocks_at l s) (blocks_at r s)) n w (length (blocks_at l s)) e

  slot_most : length (blocks_at l s) ≡ most_blocks → length (blocks_at r s) ≡ most_blocks → length (slot_lines l r s) ≤ 32
  unfolding slot_lines
  slot_most d e = blocks_most s (blocks_at l s) (blocks_at r s) d e

module _ (one two : List ℕ) where
  -- The lines of slot i + 1.
  abbrev pub slot_at : ℕ → List ParentLine
  slot_at i = slot_lines (ledger_of one) (ledger_of two) (suc i)

  pub slots_most : (n : ℕ) → n ≤ last_slot → length (lines_to n slot_at) ≤ 32 * n
  slots_most n h =
      below_most n 32 slot_at
      (λ i j. slot_most (ledger_of one) (ledger_of two) (suc i) ((ledger_shaped one).blocks (suc i) (omega (arith, h, j))) ((ledger_shaped two).blocks (suc i) (omega (arith, h, j))))

  pub all_most : length (twice (ledger_of one) (ledger_of two)) ≤ most_lines
  unfolding twice
  all_most = omega (arith, slots_most last_slot (omega arith))

  -- Two sound records: every slot can be compared.
  pub compared : (s at : ℕ) → Sounds one two → s < suc last_slot → at + 32 ≤ most_lines → InBoth one two s at
  compared s at h k room =
      record {
        here = record { long = sound_long one h.first; slot = k };
        there = record { long = sound_long two h.second; slot = k };
        room = room;
      }

-- What is told of two records that can be compared.
abbrev pub asked : (one two list : List ℕ) → Unit {0} → Told
asked one two list _ = twice_in (length list) (twice (ledger_of one) (ledger_of two))
