-- Words of another length, and whether a record's own number is the one after the last.
use mathlib.Core.Bool.{false}
use mathlib.Core.Path.{◌∙◌, sym}
use Rattle.rulebook.specs.Ledger.{is_watcher}
use Rattle.rule_laws.proofs.ToolLaws.{given_on, given_off}
use Rattle.record.specs.Layout.{ledger_of}
use Rattle.record.specs.Spelling.{is_spelled}
use Rattle.shown.specs.Shown.{watcher_shown}
use Rattle.shown.proofs.Laws.{whole_long}
use mathlib.Core.Path.{ap}
use mathlib.Core.Bool.{not}
use Rattle.shown.proofs.watches.Goals as goal

pub returns-then-not-is_long : goal.returns-then-not-is_long
unfolding watcher_shown
returns-then-not-is_long c =
    sym (given_off (is_spelled c.args.rec.now) false (λ _. is_watcher (ledger_of c.args.rec.now)) (sym c.is_long.ensures ∙ c.if-not-is_long.true))

pub is_watcher-requires : goal.is_watcher-requires
is_watcher-requires c = whole_long _ _ c.is_long.ensures (ap not c.if-not-is_long.false)

pub returns : goal.returns
unfolding watcher_shown
returns c =
    c.is_watcher.ensures ∙ sym (given_on (is_spelled c.args.rec.now) false (λ _. is_watcher (ledger_of c.args.rec.now)) (sym c.is_long.ensures ∙ c.if-not-is_long.false))
