-- The loop has joined the tests of the places behind it.
use mathlib.Core.Path.{ap, ◌∙◌}
use mathlib.Core.List.{[], ◌∷◌}
use native.Mathlib.Omega.{arith}
use lib.ListN.{length, length-append}
use Rattle.dormancy.proofs.NameLaws.{left_start, left_end, left_more, named_start, named_more, named_end}
use Rattle.std.specs.Slice.Iter.{chunks_exact_rest}
use Rattle.dormancy.proofs.some_name.Goals as goal

pub loop-place-init : goal.loop-place-init
loop-place-init g c =
    let e = c.into_iter-place-iterator.ensures.into_iter_gives in
    let h = c.chunks_exact-place-items.ensures in
    (ap (λ x. x.size) e ∙ h.size, (13, omega arith, left_start 13 c.requires.1 _ (ap (λ x. x.rest.now) e ∙ h.rest)), named_start c.args.rec.now c.args.from g.row.WORDS)

pub loop-place-preserved : goal.loop-place-preserved
loop-place-preserved g c =
    let k = c.loop-place in
    let h = k.invariant in
    let q = c.in-Some.ensures.steps in
    let m = left_more c.requires.0 c.in-Some.place.now (chunks_exact_rest c.next.new.self) q.1.0 (q.1.1 ∙ h.0) h.1.0 h.1.2 in
    rw (length-append k.yielded (c.in-Some.place ∷ []))
    (q.0 ∙ h.0, (m.0, omega (arith, h.1.1, m.1), m.2), named_more c.args.rec.now c.args.from g.row.WORDS (length k.yielded) k.named h.2 _ m.3)

pub returns : goal.returns
returns g c =
    let k = c.loop-place in
    let h = k.invariant in
    let none = left_end c.requires.0 h.1.0 h.1.2 (omega (arith, h.0, c.in-None.ensures.steps.1.0)) in
    named_end c.args.rec.now c.args.from g.row.WORDS (length k.yielded) 13 k.named h.2 (omega (arith, h.1.1, none))
