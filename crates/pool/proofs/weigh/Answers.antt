-- Each case by a test of its own.
use mathlib.Core.Path.{◌∙◌, ap, sym}
use borrow.Author.Tests.{tests}
use Rattle.std.proofs.Common.{rules}
use Rattle.rulebook.specs.declared.Who.{Who}
use Rattle.rulebook.specs.declared.Who.TheVariants as who
use Rattle.rulebook.specs.Ledger.{cell_at}
use Rattle.rulebook.specs.Pool.{counts, weigh}
use Rattle.record.specs.Layout.{ledger_of}
use Rattle.pool.proofs.weigh.Goals as goal

pub returns-in-Notar : goal.returns-in-Notar
unfolding weigh counts
returns-in-Notar c =
    c.weigh_where.ensures (λ i. counts (who.Notar c.in-Notar.b) (cell_at (ledger_of c.args.rec.now) c.args.s.0 i)) (λ n b k. search (rules, tests))
    ∙ ap (λ (w : Who). weigh (ledger_of c.args.rec.now) c.args.s.0 w) (sym c.in-Notar.is)

pub returns-in-AnyNotar : goal.returns-in-AnyNotar
unfolding weigh counts
returns-in-AnyNotar c =
    c.weigh_where-in-AnyNotar.ensures (λ i. counts who.AnyNotar (cell_at (ledger_of c.args.rec.now) c.args.s.0 i)) (λ n b k. search (rules, tests))
    ∙ ap (λ (w : Who). weigh (ledger_of c.args.rec.now) c.args.s.0 w) (sym c.in-AnyNotar.is)

pub returns-in-NotarOrFallback : goal.returns-in-NotarOrFallback
unfolding weigh counts
returns-in-NotarOrFallback c =
    c.weigh_where-in-NotarOrFallback.ensures (λ i. counts (who.NotarOrFallback c.in-NotarOrFallback.b) (cell_at (ledger_of c.args.rec.now) c.args.s.0 i)) (λ n b k. search (rules, tests))
    ∙ ap (λ (w : Who). weigh (ledger_of c.args.rec.now) c.args.s.0 w) (sym c.in-NotarOrFallback.is)

pub returns-in_default : goal.returns-in_default
unfolding weigh counts
returns-in_default c =
    c.weigh_where-in_default.ensures (λ i. counts c.args.who (cell_at (ledger_of c.args.rec.now) c.args.s.0 i)) (λ n b k. search (rules, tests))
