-- The places passed are in order, and no block leads by what they have.
use mathlib.Core.Path.{refl, ◌∙◌, sym}
use native.Mathlib.Omega.{arith}
use Rattle.record.specs.Layout.{ledger_of}
use Rattle.vote_orders.specs.Ordering.{Shows}
use Rattle.vote_orders.proofs.Listed.{listed_none, listed_more, listed_led, listed_end}
use Rattle.vote_orders.proofs.shown_by.Invariants.{node}
use Rattle.vote_orders.proofs.shown_by.Goals as goal

pub loop-word-init : goal.loop-word-init
loop-word-init c =
    listed_none (ledger_of c.args.rec.now) c.args.s.0 c.args.b c.args.v.0 c.args.any.0 (node c.args.list.now) c.requires.some

pub returns-then-leads : goal.returns-then-leads
unfolding Shows
returns-then-leads c =
    let a = c.args in
    let stake = c.stake-w in
    let next = c.next_run-run in
    let vote = c.notar_of-m in
    listed_led (ledger_of a.rec.now) a.s.0 a.b a.v.0 a.any.0 (node a.list.now) c.loop-word.invariant _ vote.result stake.result.0 next.result.0 refl vote.ensures stake.ensures
    (omega (arith, c.count-nodes.ensures, c.if-nodes-n.false)) (sym c.comes_next.ensures ∙ c.if-not-comes_next.false) c.if-rest-w.false next.ensures
    (sym c.leads.ensures ∙ c.if-leads.true)

pub loop-word-preserved : goal.loop-word-preserved
loop-word-preserved c =
    let a = c.args in
    let stake = c.stake-w in
    let next = c.next_run-run in
    let vote = c.notar_of-m in
    listed_more (ledger_of a.rec.now) a.s.0 a.b a.v.0 a.any.0 (node a.list.now) c.loop-word.invariant _ vote.result stake.result.0 next.result.0 refl vote.ensures stake.ensures
    (omega (arith, c.count-nodes.ensures, c.if-nodes-n.false)) (sym c.comes_next.ensures ∙ c.if-not-comes_next.false) c.if-rest-w.false next.ensures
    (sym c.leads.ensures ∙ c.if-leads.false)

pub returns : goal.returns
unfolding Shows
returns c =
    listed_end (ledger_of c.args.rec.now) c.args.s.0 c.args.b c.args.v.0 c.args.any.0 (node c.args.list.now) c.loop-word.invariant (omega (arith, c.if-rest-ne0.false)) c.requires.all
