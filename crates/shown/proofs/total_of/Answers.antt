-- Words of another length, and a record's total.
use mathlib.Core.Path.{◌∙◌, ap, sym}
use Prim.Native.Nat.{◌-◌}
use Rattle.rulebook.specs.Ledger.{Ledger}
use Rattle.record.specs.Setting.{no_ledger}
use Rattle.shown.proofs.Laws.{short_ledger, whole_ledger, whole_long}
use mathlib.Core.Bool.{not}
use Rattle.shown.proofs.total_of.Goals as goal

pub returns-then-not-is_long : goal.returns-then-not-is_long
unfolding no_ledger
returns-then-not-is_long c =
    sym (ap (λ (l : Ledger). l.total) (short_ledger c.args.rec.now _ c.is_long.ensures (ap not c.if-not-is_long.true)))

pub total-requires : goal.total-requires
total-requires c = whole_long _ _ c.is_long.ensures (ap not c.if-not-is_long.false)

pub returns : goal.returns
returns c =
    c.total.ensures ∙ ap (λ (l : Ledger). l.total) (whole_ledger c.args.rec.now _ c.is_long.ensures (ap not c.if-not-is_long.false))
