-- Words of another length, a slot past the last, and the mark.
use mathlib.Core.Path.{◌∙◌, ap}
use Prim.Native.Nat.{◌-◌}
use native.Mathlib.Omega.{arith}
use Rattle.rulebook.specs.Ledger.{Ledger, Row, blank_row, no_row, row_at}
use Rattle.shown.proofs.Laws.{short_row, past_row, whole_ledger, whole_long}
use mathlib.Core.Bool.{not}
use Rattle.shown.proofs.final_of.Goals as goal

pub returns-then-not-is_long : goal.returns-then-not-is_long
unfolding no_row blank_row
returns-then-not-is_long c =
    ap (λ (r : Row). r.final) (short_row c.args.rec.now _ c.is_long.ensures (ap not c.if-not-is_long.true) c.args.s.0)

pub returns-then-s-gt-LAST_SLOT : goal.returns-then-s-gt-LAST_SLOT
unfolding no_row blank_row
returns-then-s-gt-LAST_SLOT c =
    ap (λ (r : Row). r.final) (past_row c.args.rec.now _ c.is_long.ensures (ap not c.if-not-is_long.false) c.args.s.0 (omega arith))

pub final_block-requires : goal.final_block-requires
final_block-requires c = record { long = whole_long _ _ c.is_long.ensures (ap not c.if-not-is_long.false); slot = omega arith }

pub returns : goal.returns
returns c =
    c.final_block.ensures ∙ ap (λ (l : Ledger). (row_at l c.args.s.0).final) (whole_ledger c.args.rec.now _ c.is_long.ensures (ap not c.if-not-is_long.false))
