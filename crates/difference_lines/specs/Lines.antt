-- Which votes of two ledgers differ, from the stored votes alone.
use Rattle.std.specs.Prelude.{Bool, true, false, not, ◌&&◌, List, [], ◌∷◌, ◌++◌, ℕ, zero, suc, eqb, ltb}
use Rattle.rulebook.specs.declared.Cell.{Cell}
use Rattle.rulebook.specs.declared.Vote.{Vote}
use Rattle.rulebook.specs.declared.VoteKind.{VoteKind}
use Rattle.rulebook.specs.declared.VoteKind.TheVariants as vote
use Rattle.rulebook.specs.declared.Place.{Place}
use Rattle.rulebook.specs.declared.Place.TheVariants.{Free, Same, Taken}
use Rattle.rulebook.specs.Tools.{whenever, all_to, lowest}
use Rattle.rulebook.specs.Weights.{last_slot, stake_in, slot_ok}
use Rattle.rulebook.specs.PaperNumbers.{vote_number}
use Rattle.rulebook.specs.Ledger.{Ledger, none, cell_at}
use Rattle.rulebook.specs.Votes.{place_of}
use Rattle.rulebook.specs.Inputs.{misfits}
use Rattle.difference_lines.specs.declared.Side.{Side}
use Rattle.difference_lines.specs.declared.Side.TheVariants as side

-- ---- a stored vote

-- The vote finds itself in its place.
unfoldable pub is_same : Place → Bool
is_same Same = true
is_same Free = false
is_same Taken = false

-- The cell keeps that very vote, as 7 reads it.
unfoldable pub keeps : Cell → VoteKind → ℕ → Bool
keeps c k b = is_same (place_of c k b)

-- The ledger stores the vote: one that 3, 2 and 5 let pass, and that is already kept.
unfoldable pub stores : Ledger → Vote → Bool
stores l v =
    slot_ok v.slot.0
    && (ltb v.node.0 l.count
    && (not (misfits v.kind v.block) && keeps (cell_at l v.slot.0 v.node.0) v.kind v.block))

-- ---- a line

-- A stored vote, and "which side has it".
pub record Line : Type 0 where
  pub vote : Vote
  pub side : Side

-- 1 for the first side, 2 for the second; 0 where a line is of neither.
unfoldable pub side_number : Side → ℕ
side_number side.First = 1
side_number side.Second = 2
side_number side.Neither = 0

abbrev pub line_for : Vote → Side → Line
line_for v s = record { vote = v; side = s }

-- A line's five words: "slot, node, kind and block", and the side.
abbrev pub spell_line : Line → List ℕ
spell_line x =
    x.vote.slot.0 ∷ x.vote.node.0 ∷ vote_number x.vote.kind ∷ x.vote.block ∷ side_number x.side ∷ []

unfoldable pub spell_lines : List Line → List ℕ
spell_lines [] = []
spell_lines (x ∷ xs) = spell_line x ++ spell_lines xs

-- Node n's vote in slot s.
abbrev pub vote_at : ℕ → ℕ → VoteKind → ℕ → Vote
vote_at s n k b = record { kind = k; node = record { 0 = n }; slot = record { 0 = s }; block = b }

-- "every stored vote that is in one and not in the other, with which side has it": a vote that the first side has, or has not, and the
-- second likewise.
unfoldable pub line_of : Vote → Bool → Bool → List Line
line_of v true true = []
line_of v true false = line_for v side.First ∷ []
line_of v false true = line_for v side.Second ∷ []
line_of v false false = []

-- ---- one node in one slot

-- The line for a vote, where its node's cells differ in it.
abbrev pub vote_line : Cell → Cell → Vote → List Line
vote_line c d v = line_of v (keeps c v.kind v.block) (keeps d v.kind v.block)

-- The blocks that the two cells name in votes of a kind.
unfoldable pub blocks_of : VoteKind → Cell → Cell → List ℕ
blocks_of vote.Notar c d = c.notar ∷ d.notar ∷ []
blocks_of vote.NotarFallback c d = c.fallback1 ∷ c.fallback2 ∷ c.fallback3 ∷ d.fallback1 ∷ d.fallback2 ∷ d.fallback3 ∷ []
blocks_of vote.Skip c d = []
blocks_of vote.SkipFallback c d = []
blocks_of vote.Final c d = []
blocks_of vote.Other c d = []

-- They are six at most.
abbrev pub most_named : ℕ
most_named = 6

-- The numbers of a list above x in ascending order, each once, at most so many: the lowest above x, and those above it.
unfoldable pub ascending : List ℕ → ℕ → ℕ → List ℕ
ascending bs x zero = []
ascending bs x (suc f) =
    whenever (not (none (lowest (ltb x) bs))) (λ _. lowest (ltb x) bs ∷ ascending bs (lowest (ltb x) bs) f) []

-- The lines for each block of a list, in its order.
unfoldable pub lines_over : (ℕ → List Line) → List ℕ → List Line
lines_over f [] = []
lines_over f (b ∷ bs) = f b ++ lines_over f bs

unfoldable pub block_lines : ℕ → ℕ → Cell → Cell → VoteKind → List Line
block_lines s n c d k = lines_over (λ b. vote_line c d (vote_at s n k b)) (ascending (blocks_of k c d) 0 most_named)

-- Kinds ascending, and blocks within a kind; the other three kinds carry block 0.
unfoldable pub cell_lines : ℕ → ℕ → Cell → Cell → List Line
cell_lines s n c d =
    block_lines s n c d vote.Notar
    ++ (block_lines s n c d vote.NotarFallback
    ++ (vote_line c d (vote_at s n vote.Skip 0) ++ (vote_line c d (vote_at s n vote.SkipFallback 0) ++ vote_line c d (vote_at s n vote.Final 0))))

-- ---- two ledgers

-- The lines of f 0, f 1 .. f (n - 1), one after the other.
unfoldable pub lines_to : ℕ → (ℕ → List Line) → List Line
lines_to zero f = []
lines_to (suc n) f = lines_to n f ++ f n

-- A slot's nodes ascending, and the slots.
abbrev pub node_lines : Ledger → Ledger → ℕ → ℕ → List Line
node_lines l m s n = cell_lines s n (cell_at l s n) (cell_at m s n)

unfoldable pub slot_lines : Ledger → Ledger → ℕ → List Line
slot_lines l m s = lines_to l.count (node_lines l m s)

unfoldable pub vote_lines : Ledger → Ledger → List Line
vote_lines l m = lines_to last_slot (λ i. slot_lines l m (suc i))

-- The stake tables are the same, "own numbers aside": so many nodes, and each node's stake.
unfoldable pub same_tables : Ledger → Ledger → Bool
same_tables l m = eqb l.count m.count && all_to l.count (λ n. eqb (stake_in l.stakes n) (stake_in m.stakes n))

-- The "one line saying so": a line of neither side and of no vote, five words of 0.
abbrev pub tables_line : Line
tables_line = line_for (vote_at 0 0 vote.Other 0) side.Neither

-- "Different stake tables, own numbers aside, give one line saying so and nothing else."
unfoldable pub differences : Ledger → Ledger → List Line
differences l m = whenever (same_tables l m) (λ _. vote_lines l m) (tables_line ∷ [])
