-- Each place that is looked for is the first of its kind, and the next is asked for where there is none.
use mathlib.Core.Path.{◌∙◌, ap}
use Prim.Native.Nat.{ℕ}
use lib.ListN.{get_or}
use Rattle.std.proofs.Common.{rules}
use Rattle.rulebook.specs.declared.CertificateKind.TheVariants as certificate
use Rattle.rulebook.specs.Ledger.{certificates_at, no_kept}
use Rattle.record.specs.Layout.{ledger_of}
use Rattle.record.proofs.Reading.{ledger_shaped}
use Rattle.signers.proofs.KeptMasks.{asked_on, masks_in_turn}
use Rattle.signers.proofs.kept_place.Goals as goal

pub returns : goal.returns
returns c =
    let a = c.args in
    let qs = certificates_at (ledger_of a.rec.now) a.s.0 in
    ap (λ (n : ℕ). get_or qs n no_kept) c.unwrap_or.ensures
    ∙ masks_in_turn a.kind a.block qs ((ledger_shaped a.rec.now).certificates a.s.0 c.requires.slot) c.first_place.result c.or_else.result c.or_else-2.result (c.first_place.ensures.first, c.first_place.ensures.within)
    (asked_on _ qs a.block certificate.Notar c.first_place.result c.or_else.result c.or_else.ensures (λ e. (search rules, search rules)))
    (asked_on _ qs a.block certificate.FastFinal c.or_else.result c.or_else-2.result c.or_else-2.ensures (λ e. (search rules, search rules)))
