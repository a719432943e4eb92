-- What is promised of the lines of two ledgers, in the customer's words.
use Rattle.std.specs.Prelude.{◌≡◌, Bool, true, false, not, ◌&&◌, ◌||◌, List, [], ◌∷◌, eqb, ltb}
use Rattle.rulebook.specs.declared.Vote.{Vote}
use Rattle.rulebook.specs.PaperNumbers.{vote_number}
use Rattle.rulebook.specs.Ledger.{Ledger}
use Rattle.difference_lines.specs.declared.Side.{Side}
use Rattle.difference_lines.specs.declared.Side.TheVariants as side
use Rattle.difference_lines.specs.Lines.{Line, side_number, stores, same_tables, tables_line, differences}

-- ---- a line for a vote

-- Two votes are the same: node, slot, kind and block.
abbrev pub same_vote : Vote → Vote → Bool
same_vote v w =
    eqb v.node.0 w.node.0
    && (eqb v.slot.0 w.slot.0 && (eqb (vote_number v.kind) (vote_number w.kind) && eqb v.block w.block))

-- A line stands for the vote and the side.
unfoldable pub is_line : Vote → Side → Line → Bool
is_line v t x = same_vote v x.vote && eqb (side_number t) (side_number x.side)

unfoldable pub listed : Vote → Side → List Line → Bool
listed v t [] = false
listed v t (x ∷ xs) = is_line v t x || listed v t xs

-- The side has it and the other has not; neither side never does.
unfoldable pub has_alone : Side → Bool → Bool → Bool
has_alone side.First a b = a && not b
has_alone side.Second a b = b && not a
has_alone side.Neither a b = false

-- "list every stored vote that is in one and not in the other, with which side has it": a line stands for a vote and a side exactly
-- where the side stores the vote and the other does not.
abbrev pub ExactlyTheOthers : Type 0
ExactlyTheOthers =
    (l m : Ledger) → same_tables l m ≡ true → (v : Vote) (t : Side) → listed v t (differences l m) ≡ has_alone t (stores l v) (stores m v)

-- ---- in order

-- "for each slot, node, kind and block, ascending in that order".
unfoldable pub comes_before : Line → Line → Bool
comes_before x y =
    ltb x.vote.slot.0 y.vote.slot.0
    || (eqb x.vote.slot.0 y.vote.slot.0
    && (ltb x.vote.node.0 y.vote.node.0
    || (eqb x.vote.node.0 y.vote.node.0
    && (ltb (vote_number x.vote.kind) (vote_number y.vote.kind)
    || (eqb (vote_number x.vote.kind) (vote_number y.vote.kind) && ltb x.vote.block y.vote.block)))))

unfoldable pub before_all : Line → List Line → Bool
before_all x [] = true
before_all x (y ∷ ys) = comes_before x y && before_all x ys

-- Each line comes before every later one; so no vote has two lines.
unfoldable pub ascends : List Line → Bool
ascends [] = true
ascends (x ∷ xs) = before_all x xs && ascends xs

abbrev pub InOrder : Type 0
InOrder = (l m : Ledger) → ascends (differences l m) ≡ true

-- ---- none

-- "No line means equal stored votes, and only then."
pub record NoneExactly : Type 0 where
  pub equal_votes : (l m : Ledger) → differences l m ≡ [] → (v : Vote) → stores l v ≡ stores m v
  pub no_line : (l m : Ledger) → same_tables l m ≡ true → ((v : Vote) → stores l v ≡ stores m v) → differences l m ≡ []

-- ---- other tables

-- "Different stake tables, own numbers aside, give one line saying so and nothing else": exactly they do.
pub record TablesExactly : Type 0 where
  pub one_line : (l m : Ledger) → same_tables l m ≡ false → differences l m ≡ tables_line ∷ []
  pub no_such_line : (l m : Ledger) → same_tables l m ≡ true → (v : Vote) → listed v side.Neither (differences l m) ≡ false
