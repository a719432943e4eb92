-- From the present node on the first is the same as from the beginning on.
use mathlib.Core.Path.{◌≡◌, refl, ◌∙◌, ap, sym}
use Prim.Native.Nat.{ℕ, ◌-◌}
use native.Mathlib.Omega.{arith}
use Rattle.shown.specs.Shown.{ledger_in, voted}
use Rattle.shown_votes.specs.Votes.{first_from, voter_from}
use Rattle.shown_votes.proofs.Laws.{voted_is}
use Rattle.shown_votes.proofs.Laws.{first_here, first_further, first_none, last_number}
use mathlib.Core.Bool.{not}
use Rattle.shown_votes.proofs.voter_from.Goals as goal

pub loop-n-init : goal.loop-n-init
loop-n-init c = (c.nodes_of-nodes.ensures, refl, λ h. refl)

pub returns-then-not-is_blank : goal.returns-then-not-is_blank
unfolding voter_from
returns-then-not-is_blank c =
    let a = c.args in
    let k = c.loop-n in
    let l = ledger_in a.rec.now in
    first_here (voted l a.s.0) c.nodes_of-nodes.result k.n (omega arith) (sym (voted_is l a.s.0 k.n c.cell_of.result c.is_blank.result c.cell_of.ensures c.is_blank.ensures) ∙ (ap not c.if-not-is_blank.true))
    ∙ k.invariant.1 ∙ ap (λ (x : ℕ). first_from (x - a.from.0) a.from.0 (voted l a.s.0)) k.invariant.0

pub loop-n-preserved : goal.loop-n-preserved
loop-n-preserved c =
    let a = c.args in
    let k = c.loop-n in
    let l = ledger_in a.rec.now in
    (k.invariant.0, sym (first_further (voted l a.s.0) c.nodes_of-nodes.result k.n (omega arith) (sym (voted_is l a.s.0 k.n c.cell_of.result c.is_blank.result c.cell_of.ensures c.is_blank.ensures) ∙ (ap not c.if-not-is_blank.false))) ∙ k.invariant.1, λ h. omega arith)

pub returns : goal.returns
unfolding voter_from
returns c =
    let a = c.args in
    let k = c.loop-n in
    let l = ledger_in a.rec.now in
    let m = c.max.ensures in
    let e : c.max.result ≡ k.n = last_number a.from.0 c.nodes_of-nodes.result k.n _ m k.invariant.2 (omega arith) (λ h. omega arith) in
    e ∙ first_none (voted l a.s.0) c.nodes_of-nodes.result k.n (omega arith)
    ∙ k.invariant.1 ∙ ap (λ (x : ℕ). first_from (x - a.from.0) a.from.0 (voted l a.s.0)) k.invariant.0
