-- Some node before it passes, whichever is looked at first.
use mathlib.Core.Path.{◌∙◌, ap, sym}
use borrow.Author.Tests.{tests}
use Rattle.std.proofs.Common.{rules}
use Rattle.rulebook.specs.declared.Who.{Who}
use Rattle.rulebook.specs.declared.Who.TheVariants as who
use Rattle.rulebook.specs.Ledger.{cell_at}
use Rattle.rulebook.specs.Pool.{counts}
use Rattle.record.specs.Layout.{ledger_of}
use Rattle.pool.specs.Weighing.{counted_before}
use Rattle.pool.proofs.BeforeLaws.{some_before}
use Rattle.pool.proofs.counted_before.Goals as goal

pub returns-in-Notar : goal.returns-in-Notar
unfolding counted_before counts
returns-in-Notar c =
    some_before c.args.n.0 (λ i. counts (who.Notar c.in-Notar.b) (cell_at (ledger_of c.args.rec.now) c.args.s.0 i)) _ c.any.result c.rev-before.ensures.source c.any.ensures.ran (λ x b q k. search (rules, tests))
    ∙ ap (λ (w : Who). counted_before (ledger_of c.args.rec.now) c.args.s.0 c.args.n.0 w) (sym c.in-Notar.is)

pub returns-in-AnyNotar : goal.returns-in-AnyNotar
unfolding counted_before counts
returns-in-AnyNotar c =
    some_before c.args.n.0 (λ i. counts who.AnyNotar (cell_at (ledger_of c.args.rec.now) c.args.s.0 i)) _ c.any-in-AnyNotar.result c.rev-before.ensures.source c.any-in-AnyNotar.ensures.ran (λ x b q k. search (rules, tests))
    ∙ ap (λ (w : Who). counted_before (ledger_of c.args.rec.now) c.args.s.0 c.args.n.0 w) (sym c.in-AnyNotar.is)

pub returns-in-NotarOrFallback : goal.returns-in-NotarOrFallback
unfolding counted_before counts
returns-in-NotarOrFallback c =
    some_before c.args.n.0 (λ i. counts (who.NotarOrFallback c.in-NotarOrFallback.b) (cell_at (ledger_of c.args.rec.now) c.args.s.0 i)) _ c.any-in-NotarOrFallback.result c.rev-before.ensures.source c.any-in-NotarOrFallback.ensures.ran (λ x b q k. search (rules, tests))
    ∙ ap (λ (w : Who). counted_before (ledger_of c.args.rec.now) c.args.s.0 c.args.n.0 w) (sym c.in-NotarOrFallback.is)

pub returns-in_default : goal.returns-in_default
unfolding counted_before counts
returns-in_default c =
    some_before c.args.n.0 (λ i. counts c.args.who (cell_at (ledger_of c.args.rec.now) c.args.s.0 i)) _ c.any-in_default.result c.rev-before.ensures.source c.any-in_default.ensures.ran (λ x b q k. search (rules, tests))
