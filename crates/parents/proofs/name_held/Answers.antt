-- Votes alone decide.
use mathlib.Core.Path.{◌∙◌, sym}
use borrow.Author.Tests.{ne_eqb}
use Rattle.rulebook.specs.declared.CertificateKind.TheVariants as certificate
use Rattle.rulebook.specs.Pool.{held}
use Rattle.record.specs.Layout.{ledger_of}
use Rattle.pool.proofs.NameLaws.{holds_some}
use Rattle.parents.proofs.FewLaws.{unkept_held}
use Rattle.parents.proofs.HeavyLaws.{named_none}
use Rattle.parents.proofs.name_held.Goals as goal

pub returns-then-b-eq0 : goal.returns-then-b-eq0
returns-then-b-eq0 c =
    named_none (held (ledger_of c.args.rec.now) certificate.NotarFallback c.args.p.0) c.args.b c.if-b-eq0.true

pub returns : goal.returns
returns c =
    let z = ne_eqb c.args.b 0 c.if-b-eq0.false in c.reached.ensures ∙ sym (unkept_held (ledger_of c.args.rec.now) c.args.p.0 c.requires.kept c.args.b z) ∙ sym (holds_some (held (ledger_of c.args.rec.now) certificate.NotarFallback c.args.p.0) c.args.b z)
