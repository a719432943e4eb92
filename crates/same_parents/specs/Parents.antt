-- Which blocks of a slot and a number two records keep with two parents, as lines; what is answered, and the lent list afterwards.
use Rattle.std.specs.Prelude.{◌≡◌, Bool, true, false, List, [], ◌∷◌, ◌++◌, ℕ, zero, suc, ◌+◌, ◌≤◌, length, get_or, Result}
use Rattle.rulebook.specs.declared.Block.{Block}
use Rattle.rulebook.specs.Tools.{whenever}
use Rattle.rulebook.specs.Weights.{last_slot}
use Rattle.rulebook.specs.Ledger.{Ledger, no_block, blocks_at}
use Rattle.record.specs.Layout.{ledger_of, InSlot}
use Rattle.difference_lines.specs.declared.Side.{Side}
use Rattle.difference_lines.specs.declared.Side.TheVariants as side
use Rattle.difference_lines.specs.Lines.{side_number}
use Rattle.differences.specs.Rows as rows
use Rattle.inquest.specs.Vouched.{one_block, same_parents}
use Rattle.inquest_lines.specs.declared.ListRefusal.{ListRefusal}
use Rattle.inquest_lines.specs.Lent.{Told, put_in, ToldIn}
use Rattle.vouching.specs.Asked.{of_two}
use Rattle.same_parents.specs.declared.ParentLine.{ParentLine}

-- Block k of slot s, as one side keeps it.
abbrev pub line_of : ℕ → Block → Side → ParentLine
line_of s k x = record { slot = record { 0 = s }; block = k; side = x }

-- A line's five words: slot, number, the parent's slot and number, and the side that keeps it so.
abbrev pub spell_line : ParentLine → List ℕ
spell_line x =
    x.slot.0 ∷ x.block.number ∷ x.block.parentslot.0 ∷ x.block.parent ∷ side_number x.side ∷ []

unfoldable pub spell_lines : List ParentLine → List ℕ
spell_lines [] = []
spell_lines (x ∷ xs) = spell_line x ++ spell_lines xs

-- Nothing is listed.
unfoldable pub is_empty : List ParentLine → Bool
is_empty [] = true
is_empty (x ∷ xs) = false

-- The lines of f 0, f 1 .. f (n - 1), one after the other.
unfoldable pub lines_to : ℕ → (ℕ → List ParentLine) → List ParentLine
lines_to zero f = []
lines_to (suc n) f = lines_to n f ++ f n

-- Of two places, one of each record: no line where they do not keep one number with two parents; else a line for each side.
unfoldable pub pair_lines : ℕ → Block → Block → List ParentLine
pair_lines s a b = whenever (one_block a b) (λ _. []) (line_of s a side.First ∷ line_of s b side.Second ∷ [])

-- Of one place beside all places of the other record, in their order.
unfoldable pub place_lines : ℕ → Block → List Block → List ParentLine
place_lines s a bs = lines_to (length bs) (λ j. pair_lines s a (get_or bs j no_block))

-- Of all places of a slot beside all of the other record's.
unfoldable pub block_lines : ℕ → List Block → List Block → List ParentLine
block_lines s ks bs = lines_to (length ks) (λ i. place_lines s (get_or ks i no_block) bs)

unfoldable pub slot_lines : Ledger → Ledger → ℕ → List ParentLine
slot_lines l r s = block_lines s (blocks_at l s) (blocks_at r s)

-- THE LIST OF PARENTS: slots ascending, in a slot the first record's places in their order.
unfoldable pub twice : Ledger → Ledger → List ParentLine
twice l r = lines_to last_slot (λ i. slot_lines l r (suc i))

-- The lines, or 9 with how many there are.
unfoldable pub twice_in : ℕ → List ParentLine → Told
twice_in room xs = put_in room (length xs) (spell_lines xs)

-- 17 with the side, then 1 where the stake tables differ: the slots of two rings are not the same slots. Else the lines.
unfoldable pub parents_on : List ℕ → List ℕ → ℕ → Told
parents_on one two room = of_two one two (λ _. twice_in room (twice (ledger_of one) (ledger_of two)))

-- What is answered, and all words of the list afterwards.
abbrev pub ParentsOf : List ℕ → List ℕ → List ℕ → Result ℕ ListRefusal → List ℕ → Type 0
ParentsOf one two list r left = ToldIn list (parents_on one two (length list)) r left

-- The list is empty exactly where no block of a slot and a number has two parents.
abbrev pub NothingTwice : Type 0
NothingTwice = (l r : Ledger) → is_empty (twice l r) ≡ same_parents l r

-- ---- the parts

-- Lines put into the list behind the first `at`, as far as it reaches, every other word as it was; and how many there are then.
abbrev pub Laid : List ℕ → ℕ → List ParentLine → List ℕ → ℕ → Type 0
Laid = rows.Laid spell_lines

-- Two for each of sixteen pairs of places, in each of sixteen slots.
abbrev pub most_lines : ℕ
most_lines = 512

-- A slot of the second record, and room to count the lines of a place.
pub record Beside (two : List ℕ) (s at : ℕ) : Type 0 where
  pub slot : InSlot two s
  pub room : at + 8 ≤ most_lines

-- A slot of both records, and room to count its lines.
pub record InBoth (one two : List ℕ) (s at : ℕ) : Type 0 where
  pub here : InSlot one s
  pub there : InSlot two s
  pub room : at + 32 ≤ most_lines
