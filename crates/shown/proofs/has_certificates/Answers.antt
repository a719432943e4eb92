-- Words of another length, a slot past the last, and its places for certificates.
use mathlib.Core.Bool.{not}
use mathlib.Core.Path.{◌∙◌, ap}
use Prim.Native.Nat.{◌-◌}
use native.Mathlib.Omega.{arith}
use Rattle.rulebook.specs.Ledger.{Ledger, Row, blank_row, no_row}
use Rattle.rulebook.specs.WellFormed.{each_kept, kept_blank}
use Rattle.shown.specs.Shown.{has_certificates}
use Rattle.shown.proofs.Laws.{short_row, past_row, whole_ledger, whole_long}
use Rattle.shown.proofs.has_certificates.Goals as goal

pub returns-then-not-is_long : goal.returns-then-not-is_long
unfolding no_row blank_row has_certificates each_kept kept_blank
returns-then-not-is_long c =
    let a = c.args in
    ap (λ (r : Row). not (each_kept (λ i q. kept_blank q) 0 r.certificates)) (short_row a.rec.now _ c.is_long.ensures (ap not c.if-not-is_long.true) a.s.0)

pub returns-then-s-gt-LAST_SLOT : goal.returns-then-s-gt-LAST_SLOT
unfolding no_row blank_row has_certificates each_kept kept_blank
returns-then-s-gt-LAST_SLOT c =
    let a = c.args in
    ap (λ (r : Row). not (each_kept (λ i q. kept_blank q) 0 r.certificates)) (past_row a.rec.now _ c.is_long.ensures (ap not c.if-not-is_long.false) a.s.0 (omega arith))

pub nothing_kept-requires : goal.nothing_kept-requires
nothing_kept-requires c = record { long = whole_long _ _ c.is_long.ensures (ap not c.if-not-is_long.false); slot = omega arith }

pub returns : goal.returns
unfolding has_certificates
returns c =
    let a = c.args in
    ap not c.nothing_kept.ensures
    ∙ ap (λ (l : Ledger). has_certificates l a.s.0) (whole_ledger a.rec.now _ c.is_long.ensures (ap not c.if-not-is_long.false))
