-- None of the blocks passed holds kind 3.
use mathlib.Core.Path.{◌∙◌, sym}
use native.Mathlib.Omega.{arith}
use Rattle.rulebook.specs.declared.CertificateKind.TheVariants as certificate
use Rattle.rulebook.specs.Pool.{held}
use Rattle.record.specs.Layout.{ledger_of}
use Rattle.parents.proofs.HeavyLaws.{none_start, none_next, some_here, none_end}
use Rattle.parents.proofs.some_block_held.Goals as goal

pub loop-b-init : goal.loop-b-init
loop-b-init c = none_start (held (ledger_of c.args.rec.now) certificate.NotarFallback c.args.p.0) c.args.blocks.now

pub returns-then-name_held : goal.returns-then-name_held
returns-then-name_held c =
    some_here (held (ledger_of c.args.rec.now) certificate.NotarFallback c.args.p.0) c.args.blocks.now c.loop-b.b-index (omega arith) (sym c.name_held.ensures ∙ c.if-name_held.true)

pub loop-b-preserved : goal.loop-b-preserved
loop-b-preserved c =
    none_next (held (ledger_of c.args.rec.now) certificate.NotarFallback c.args.p.0) c.args.blocks.now c.loop-b.b-index c.loop-b.invariant (sym c.name_held.ensures ∙ c.if-name_held.false)

pub returns : goal.returns
returns c =
    none_end (held (ledger_of c.args.rec.now) certificate.NotarFallback c.args.p.0) c.args.blocks.now c.loop-b.b-index (omega arith) c.loop-b.invariant
