-- The loop over pairs: those before the present one stand in the buffer.
use mathlib.Core.Path.{refl, sym, ◌∙◌}
use native.Mathlib.Omega.{arith}
use Rattle.hex_bytes.proofs.Pairs.{put_none, put_more, put_end, pair_at_lem, pair_is, below_some, below_none}
use Rattle.hex_bytes.proofs.put_pairs.Goals.{in-Some, in_default}
use Rattle.hex_bytes.proofs.put_pairs.Goals as goal

pub loop-i-init : goal.loop-i-init
loop-i-init c = (put_none _ _, refl)

pub loop-i-preserved : goal.loop-i-preserved
loop-i-preserved c =
    let n = c.as_chunks.ensures.front_len in
    let e = pair_is _ _ c.loop-i.i c.as_chunks.ensures.front (omega arith) _ c.hex_pair.ensures in
    let i = c.loop-i.invariant in
    elim c.match-hex_pair.branch [
      | in-Some w ↦
          let b = below_some 256 _ _ (sym w.in-Some.is ∙ e) in
          (w.out-is ∙ put_more _ c.loop-i.i _ _ _ b.0 i.0, c.match-hex_pair.auto.out ∙ i.1)
      | in_default w ↦ absurd (omega (arith, below_none 256 _ (sym w.in_default.is ∙ e), pair_at_lem _ _ c.loop-i.i c.requires.good (omega arith)))
    ]

pub returns : goal.returns
returns c =
    let n = c.as_chunks.ensures.front_len in
    put_end _ c.loop-i.i _ _ _ c.loop-i.invariant.0 (omega arith) (omega arith)
