-- Either mask names a signer.
use mathlib.Core.Path.{◌∙◌, ap, ap₂}
use mathlib.Core.Bool.{Bool, not, ◌||◌}
use Prim.Native.Nat.{ℕ}
use Rattle.rulebook.specs.Ledger.{none}
use Rattle.record.specs.Layout.{ledger_of}
use Rattle.kept_certificates.specs.Kept.{place_at}
use Rattle.kept_certificates.proofs.Laws.{either_kept}
use Rattle.kept_certificates.proofs.is_kept.Goals as goal

pub returns : goal.returns
returns c =
    let a = c.args in
    let q = place_at (ledger_of a.rec.now) a.s.0 a.n in
    ap₂ (λ (x y : Bool). x || y) (c.has_signers.ensures ∙ ap (λ (m : ℕ). not (none m)) c.mask_a-a.ensures.spells)
    (c.has_signers-2.ensures ∙ ap (λ (m : ℕ). not (none m)) c.mask_b-b.ensures.spells)
    ∙ either_kept (none q.maska) (none q.maskb)
