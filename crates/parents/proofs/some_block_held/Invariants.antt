-- None of the blocks passed holds kind 3.
use Rattle.rulebook.specs.declared.CertificateKind.TheVariants as certificate
use Rattle.rulebook.specs.Pool.{held}
use Rattle.record.specs.Layout.{ledger_of}
use Rattle.parents.proofs.HeavyLaws.{NoneTo}
use Rattle.parents.proofs.some_block_held.Given as goal

abbrev pub invariant-loop-b : goal.invariant-loop-b
invariant-loop-b l = NoneTo (held (ledger_of l.rec) certificate.NotarFallback l.p.0) l.blocks l.b-index
