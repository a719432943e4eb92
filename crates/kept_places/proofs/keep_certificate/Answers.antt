-- The certificate goes to the first free place for its kind; where there is none the ledger is as it was.
use mathlib.Core.Path.{◌∙◌, ap, sym}
use Prim.Native.Nat.{ℕ}
use native.Mathlib.Omega.{arith}
use Rattle.std.proofs.Common.{Option}
use Rattle.std.specs.Option.{unwrap_or}
use Rattle.rulebook.specs.Certificates.{Kept}
use Rattle.rulebook.specs.Packets.{joined}
use Rattle.record.specs.Layout.{ledger_of}
use Rattle.record.proofs.Reading.{ledger_shaped}
use Rattle.kept_places.proofs.Laws.{kept_at, kept_nowhere}
use Rattle.kept_places.proofs.keep_certificate.Goals as goal

pub returns-in-Some : goal.returns-in-Some
returns-in-Some c =
    let a = c.before.args in
    let p : Kept = record { block = a.block; maska = joined a.a.now; maskb = joined a.b.now } in
    c.store_certificate.ensures
    ∙ kept_at (ledger_of a.rec.now) a.kind a.s.0 _ p (ap (λ (r : Option ℕ). unwrap_or r 13) (sym c.in-Some.is) ∙ c.first_place.ensures.first)

pub returns-in_default : goal.returns-in_default
returns-in_default c =
    let a = c.args in
    let p : Kept = record { block = a.block; maska = joined a.a.now; maskb = joined a.b.now } in
    kept_nowhere (ledger_of a.rec.now) a.kind a.s.0 13 p (ap (λ (r : Option ℕ). unwrap_or r 13) (sym c.in_default.is) ∙ c.first_place.ensures.first)
    (omega (arith, (ledger_shaped a.rec.now).certificates a.s.0 c.requires.slot.slot))
