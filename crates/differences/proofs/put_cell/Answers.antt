-- The five kinds one after the other.
use Rattle.std.proofs.Common.{◌≡◌, rules, ap}
use native.Mathlib.Omega.{arith}
use Rattle.rulebook.specs.declared.VoteKind.TheVariants as vote
use Rattle.difference_lines.specs.Lines.{vote_at, vote_line, keeps, cell_lines}
use Rattle.differences.proofs.Rows.{laid_as, laid_then}
use Rattle.differences.proofs.LineLaws.{spelled, block_most, line_most}
use Rattle.differences.proofs.put_cell.Goals as goal

pub put_blocks-b-requires : goal.put_blocks-b-requires
put_blocks-b-requires c =
    let a = c.args in omega (arith, c.requires, c.put_blocks-a.ensures.many, block_most a.slot.0 a.node.0 a.c a.d vote.Notar)

pub put_vote-e-requires : goal.put_vote-e-requires
put_vote-e-requires c =
    let a = c.args in omega (arith, c.requires, c.put_blocks-a.ensures.many, c.put_blocks-b.ensures.many, block_most a.slot.0 a.node.0 a.c a.d vote.Notar, block_most a.slot.0 a.node.0 a.c a.d vote.NotarFallback)

pub put_vote-f-requires : goal.put_vote-f-requires
put_vote-f-requires c =
    let a = c.args in
    let v = c.vote.result in omega (
      arith,
      c.requires,
      c.put_blocks-a.ensures.many,
      c.put_blocks-b.ensures.many,
      c.put_vote-e.ensures.many,
      block_most a.slot.0 a.node.0 a.c a.d vote.Notar,
      block_most a.slot.0 a.node.0 a.c a.d vote.NotarFallback,
      line_most v (keeps a.c v.kind v.block) (keeps a.d v.kind v.block),
    )

pub put_vote-requires : goal.put_vote-requires
put_vote-requires c =
    let a = c.args in
    let v = c.vote.result in
    let w = c.vote-2.result in omega (
      arith,
      c.requires,
      c.put_blocks-a.ensures.many,
      c.put_blocks-b.ensures.many,
      c.put_vote-e.ensures.many,
      c.put_vote-f.ensures.many,
      block_most a.slot.0 a.node.0 a.c a.d vote.Notar,
      block_most a.slot.0 a.node.0 a.c a.d vote.NotarFallback,
      line_most v (keeps a.c v.kind v.block) (keeps a.d v.kind v.block),
      line_most w (keeps a.c w.kind w.block) (keeps a.d w.kind w.block),
    )

pub returns : goal.returns
unfolding cell_lines
returns c =
    let a = c.args in
    let skip : c.vote.result ≡ vote_at a.slot.0 a.node.0 vote.Skip 0 = search rules in
    let fallback : c.vote-2.result ≡ vote_at a.slot.0 a.node.0 vote.SkipFallback 0 = search rules in
    let last : c.vote-3.result ≡ vote_at a.slot.0 a.node.0 vote.Final 0 = search rules in
    laid_then spelled c.put_blocks-a.ensures
    (laid_then spelled c.put_blocks-b.ensures
    (laid_then spelled (laid_as (ap (vote_line a.c a.d) skip) c.put_vote-e.ensures)
    (laid_then spelled (laid_as (ap (vote_line a.c a.d) fallback) c.put_vote-f.ensures) (laid_as (ap (vote_line a.c a.d) last) c.put_vote.ensures))))
