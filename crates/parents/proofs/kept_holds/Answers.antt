-- A place without a block, and one whose block is asked for.
use mathlib.Core.Path.{◌∙◌, ap, sym}
use borrow.Author.Tests.{ne_eqb}
use Rattle.rulebook.specs.Pool.{held}
use Rattle.rulebook.specs.declared.CertificateKind.TheVariants as certificate
use Rattle.record.specs.Layout.{ledger_of}
use Rattle.pool.specs.Weighing.{named_holds}
use Rattle.pool.proofs.NameLaws.{holds_none, holds_some}
use Rattle.parents.proofs.kept_holds.Goals as goal

pub block_at-b-requires : goal.block_at-b-requires
block_at-b-requires c =
    let a = c.requires in record { long = a.carded.weighing.long; slot = a.carded.weighing.slot; place = a.place }

pub returns-then-b-eq0 : goal.returns-then-b-eq0
returns-then-b-eq0 c =
    let a = c.args in
    let p = held (ledger_of a.rec.now) certificate.NotarFallback a.p.0 in
    sym (ap (named_holds p) (sym c.block_at-b.ensures ∙ c.if-b-eq0.true) ∙ holds_none p)

pub held-requires : goal.held-requires
held-requires c = c.requires.carded

pub returns : goal.returns
returns c =
    let a = c.args in
    let p = held (ledger_of a.rec.now) certificate.NotarFallback a.p.0 in
    c.held.ensures ∙ sym (holds_some p c.block_at-b.result (ne_eqb c.block_at-b.result 0 c.if-b-eq0.false)) ∙ ap (named_holds p) c.block_at-b.ensures
