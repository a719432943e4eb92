-- The loop over the blocks: what is put, and what is left above the last, are all lines.
use Prim.Native.Nat.{◌+◌, ◌-◌, ◌≤◌}
use Rattle.difference_lines.specs.Lines.{vote_at, vote_line, blocks_of, block_lines, most_named}
use Rattle.differences.proofs.LineLaws.{Going}
use Rattle.differences.proofs.put_blocks.Given as goal

abbrev pub invariant-loop-i : goal.invariant-loop-i
invariant-loop-i l =
    Going l.initial.list l.at (block_lines l.slot.0 l.node.0 l.c l.d l.kind) (λ b. vote_line l.c l.d (vote_at l.slot.0 l.node.0 l.kind b)) (blocks_of l.kind l.c l.d) l.list l.next l.last (most_named - l.i)
    × (l.next ≤ l.at + l.i) × (l.i ≤ most_named)

abbrev pub decreases-loop-i : goal.decreases-loop-i
decreases-loop-i l =
    most_named - l.i
