-- The counters have the names of the nodes passed.
use Rattle.rulebook.specs.declared.Who.TheVariants as who
use Rattle.record.specs.Layout.{ledger_of}
use Rattle.heavy_blocks.proofs.Laws.{Hitting}
use Rattle.heavy_blocks.proofs.heavy_names.Given as goal

abbrev pub invariant-loop-n : goal.invariant-loop-n
invariant-loop-n l = Hitting (ledger_of l.rec) l.s.0 (λ m. who.NotarOrFallback m) 4 l.counters l.n
