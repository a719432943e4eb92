-- The loop goes over the places; none passed so far has a block that holds kind 3.
use mathlib.Core.Path.{◌∙◌, sym}
use native.Mathlib.Omega.{arith}
use Rattle.rulebook.specs.Ledger.{certificates_at}
use Rattle.rulebook.specs.Pool.{held}
use Rattle.rulebook.specs.declared.CertificateKind.TheVariants as certificate
use Rattle.record.specs.Layout.{ledger_of}
use Rattle.record.proofs.Reading.{ledger_shaped}
use Rattle.parents.proofs.AnyLaws.{kept_start_lem, kept_next, kept_here, kept_end}
use Rattle.parents.proofs.some_kept_holds.Goals as goal

pub loop-n-init : goal.loop-n-init
loop-n-init c =
    let a = c.args in
    let l = ledger_of a.rec.now in
    (omega arith, kept_start_lem (held l certificate.NotarFallback a.p.0) (certificates_at l a.p.0))

pub kept_holds-requires : goal.kept_holds-requires
kept_holds-requires c = record { carded = c.requires; place = omega arith }

pub returns-then-kept_holds : goal.returns-then-kept_holds
returns-then-kept_holds c =
    let ws = c.args.rec.now in
    let l = ledger_of ws in
    kept_here (held l certificate.NotarFallback c.args.p.0) (certificates_at l c.args.p.0) c.loop-n.n
    (omega (arith, (ledger_shaped ws).certificates c.args.p.0 c.requires.weighing.slot, c.loop-n-test)) (sym c.kept_holds.ensures ∙ c.if-kept_holds.true)

pub loop-n-preserved : goal.loop-n-preserved
loop-n-preserved c =
    let a = c.args in
    let l = ledger_of a.rec.now in
    let k = c.loop-n in
    (omega arith, kept_next (held l certificate.NotarFallback a.p.0) (certificates_at l a.p.0) k.n k.invariant.1 (sym c.kept_holds.ensures ∙ c.if-kept_holds.false))

pub returns : goal.returns
returns c =
    let ws = c.args.rec.now in
    let l = ledger_of ws in
    let k = c.loop-n in
    kept_end (held l certificate.NotarFallback c.args.p.0) (certificates_at l c.args.p.0) k.n
    (omega (arith, (ledger_shaped ws).certificates c.args.p.0 c.requires.weighing.slot)) k.invariant.1
