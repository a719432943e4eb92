-- Words of another length, a slot past the last, and the mark.
use mathlib.Core.Bool.{not}
use mathlib.Core.Path.{◌∙◌, ap}
use Prim.Native.Nat.{ℕ, ◌-◌}
use native.Mathlib.Omega.{arith}
use Rattle.rulebook.specs.Ledger.{Ledger, Row, blank_row, no_row, row_at, none}
use Rattle.shown.proofs.Laws.{short_row, past_row, whole_ledger, whole_long}
use Rattle.shown.proofs.clash_in.Goals as goal

pub returns-then-not-is_long : goal.returns-then-not-is_long
unfolding no_row blank_row
returns-then-not-is_long c =
    ap (λ (r : Row). not (none r.clash)) (short_row c.args.rec.now _ c.is_long.ensures (ap not c.if-not-is_long.true) c.args.s.0)

pub returns-then-s-gt-LAST_SLOT : goal.returns-then-s-gt-LAST_SLOT
unfolding no_row blank_row
returns-then-s-gt-LAST_SLOT c =
    ap (λ (r : Row). not (none r.clash)) (past_row c.args.rec.now _ c.is_long.ensures (ap not c.if-not-is_long.false) c.args.s.0 (omega arith))

pub clash_word-requires : goal.clash_word-requires
clash_word-requires c = record { long = whole_long _ _ c.is_long.ensures (ap not c.if-not-is_long.false); slot = omega arith }

pub returns : goal.returns
returns c =
    ap (λ (x : ℕ). not (none x)) c.clash_word.ensures ∙ ap (λ (l : Ledger). not (none (row_at l c.args.s.0).clash)) (whole_ledger c.args.rec.now _ c.is_long.ensures (ap not c.if-not-is_long.false))
