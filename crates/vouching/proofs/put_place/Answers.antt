-- Nothing kept; else the signer, by the masks that name it.
use mathlib.Core.Path.{◌∙◌, refl, ap, sym}
use Prim.Native.Nat.{ℕ}
use Rattle.rulebook.specs.Packets.{bit}
use Rattle.record.specs.Layout.{ledger_of}
use Rattle.kept_certificates.specs.Kept.{place_at}
use Rattle.vouching.proofs.Laws.{place_none, place_put}
use Rattle.vouching.proofs.put_place.Goals as goal

pub returns-then-not-is_kept : goal.returns-then-not-is_kept
returns-then-not-is_kept c =
    let a = c.args in
    place_none a.s.0 a.m.0 a.d a.n (place_at (ledger_of a.rec.now) a.s.0 a.n) (sym c.is_kept.ensures ∙ c.if-not-is_kept.true)

pub returns : goal.returns
returns c =
    let a = c.args in
    place_put a.s.0 a.m.0 a.d a.n (place_at (ledger_of a.rec.now) a.s.0 a.n) _
    (sym c.is_kept.ensures ∙ c.if-not-is_kept.false) c.place_kind.ensures refl refl c.block_at.ensures
    (c.names.ensures ∙ ap (λ (x : ℕ). bit x a.m.0) c.mask_a.ensures.spells)
    (c.names-2.ensures ∙ ap (λ (x : ℕ). bit x a.m.0) c.mask_b.ensures.spells) c.put_signer.ensures
