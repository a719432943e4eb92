-- The blocks of kept certificates, then those that votes name.
use mathlib.Core.Path.{◌∙◌, sym}
use Rattle.rulebook.specs.Pool.{held}
use Rattle.rulebook.specs.declared.CertificateKind.TheVariants as certificate
use Rattle.record.specs.Layout.{ledger_of}
use Rattle.parents.proofs.AnyLaws.{certifiable_kept, certifiable_named}
use Rattle.parents.proofs.some_held.Goals as goal

pub returns-then-some_kept_holds : goal.returns-then-some_kept_holds
returns-then-some_kept_holds c =
    let a = c.args in
    let l = ledger_of a.rec.now in
    sym (certifiable_kept l a.p.0 (held l certificate.NotarFallback a.p.0) (sym c.some_kept_holds.ensures ∙ c.if-some_kept_holds.true))

pub some_name_held-requires : goal.some_name_held-requires
some_name_held-requires c =
    record { carded = c.requires; kept = sym c.some_kept_holds.ensures ∙ c.if-some_kept_holds.false }

pub returns : goal.returns
returns c =
    let a = c.args in
    let l = ledger_of a.rec.now in
    c.some_name_held.ensures
    ∙ sym (certifiable_named l a.p.0 (held l certificate.NotarFallback a.p.0) (sym c.some_kept_holds.ensures ∙ c.if-some_kept_holds.false))
