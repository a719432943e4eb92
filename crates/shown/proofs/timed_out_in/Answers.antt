-- Words of another length, a slot past the last, and the mark.
use mathlib.Core.Bool.{not}
use mathlib.Core.Path.{◌∙◌, ap}
use Prim.Native.Nat.{◌-◌}
use native.Mathlib.Omega.{arith}
use Rattle.rulebook.specs.Ledger.{Ledger, Row, blank_row, no_row, row_at, none}
use Rattle.shown.proofs.Laws.{short_row, past_row, whole_ledger, whole_long}
use Rattle.shown.proofs.timed_out_in.Goals as goal

pub returns-then-not-is_long : goal.returns-then-not-is_long
unfolding no_row blank_row
returns-then-not-is_long c =
    ap (λ (r : Row). not (none r.timed_out)) (short_row c.args.rec.now _ c.is_long.ensures (ap not c.if-not-is_long.true) c.args.s.0)

pub returns-then-s-gt-LAST_SLOT : goal.returns-then-s-gt-LAST_SLOT
unfolding no_row blank_row
returns-then-s-gt-LAST_SLOT c =
    ap (λ (r : Row). not (none r.timed_out)) (past_row c.args.rec.now _ c.is_long.ensures (ap not c.if-not-is_long.false) c.args.s.0 (omega arith))

pub timed_out-requires : goal.timed_out-requires
timed_out-requires c = record { long = whole_long _ _ c.is_long.ensures (ap not c.if-not-is_long.false); slot = omega arith }

pub returns : goal.returns
returns c =
    c.timed_out.ensures ∙ ap (λ (l : Ledger). not (none (row_at l c.args.s.0).timed_out)) (whole_ledger c.args.rec.now _ c.is_long.ensures (ap not c.if-not-is_long.false))
