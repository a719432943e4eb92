-- `weigh_marked` answers `weighed`: word by word, each cut off at the table's end and weighed over the stakes from its first node on. Assumes nothing.
use Rattle.std.proofs.Common.{refl, arith}
use Rattle.rule_laws.proofs.WordLaws.{Words}
use Rattle.stakes.proofs.Stepping.{summed_none, summed_more, summed_few, summed_light, summed_done, word_in, word_weighed}
use Rattle.stakes.proofs.weigh_marked.Goals as goal

pub loop-i-init : goal.loop-i-init
loop-i-init c =
    let x : Words c.args.a.now = λ n. (c.type_inv.a n).fits in
    let y : Words c.args.b.now = λ n. (c.type_inv.b n).fits in
    (refl, c.div_ceil-i-end.ensures, c.requires, x, y, summed_none c.args.stakes.now c.args.a.now c.args.b.now c.requires.lent x y c.args.rest)

pub bounds-a-i : goal.bounds-a-i
bounds-a-i c = let l = c.loop-i in omega (arith, l.invariant.2.long)

pub bounds-b-i : goal.bounds-b-i
bounds-b-i c = let l = c.loop-i in omega (arith, l.invariant.2.long, l.invariant.2.same)

pub weigh_word-here-requires : goal.weigh_word-here-requires
weigh_word-here-requires c =
    let l = c.loop-i in
    let s = c.args in
    word_in s.stakes.now s.a.now s.b.now l.invariant.2.lent l.invariant.3 l.invariant.4 s.rest l.i _ c.marks.ensures _ _ refl c.first_nodes.ensures

pub overflow_add-signers : goal.overflow_add-signers
overflow_add-signers c =
    let l = c.loop-i in
    let s = c.args in
    let k = c.marks.ensures in
    let h = c.weigh_word-here in
    let w = word_weighed s.stakes.now s.a.now s.b.now l.invariant.2.lent l.invariant.3 l.invariant.4 s.rest l.i _ k _ _ refl c.first_nodes.ensures h.result h.ensures in
    omega (arith, summed_few s.stakes.now s.a.now s.b.now l.invariant.2.lent l.invariant.3 l.invariant.4 s.rest l.signers l.weight l.i l.invariant.5 _ k h.result w, l.invariant.2.lent.few)

pub overflow_add-weight : goal.overflow_add-weight
overflow_add-weight c =
    let l = c.loop-i in
    let s = c.args in
    let k = c.marks.ensures in
    let h = c.weigh_word-here in
    let w = word_weighed s.stakes.now s.a.now s.b.now l.invariant.2.lent l.invariant.3 l.invariant.4 s.rest l.i _ k _ _ refl c.first_nodes.ensures h.result h.ensures in
    omega (arith, summed_light s.stakes.now s.a.now s.b.now l.invariant.2.lent l.invariant.3 l.invariant.4 s.rest l.signers l.weight l.i l.invariant.5 _ k h.result w)

pub loop-i-preserved : goal.loop-i-preserved
loop-i-preserved c =
    let l = c.loop-i in
    let s = c.args in
    let k = c.marks.ensures in
    let h = c.weigh_word-here in
    let w = word_weighed s.stakes.now s.a.now s.b.now l.invariant.2.lent l.invariant.3 l.invariant.4 s.rest l.i _ k _ _ refl c.first_nodes.ensures h.result h.ensures in
    (refl, omega arith, l.invariant.2, l.invariant.3, l.invariant.4, summed_more s.stakes.now s.a.now s.b.now l.invariant.2.lent l.invariant.3 l.invariant.4 s.rest l.signers l.weight l.i l.invariant.5 _ k h.result w)

pub returns : goal.returns
returns c =
    let l = c.loop-i in
    let s = c.args in
    summed_done s.stakes.now s.a.now s.b.now l.invariant.2.lent l.invariant.3 l.invariant.4 s.rest l.signers l.weight l.i l.invariant.5 (omega arith)
