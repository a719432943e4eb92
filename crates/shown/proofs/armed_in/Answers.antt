-- No such slot, words of another length, and the window's flag.
use mathlib.Core.Bool.{false}
use mathlib.Core.Path.{◌∙◌, sym}
use Rattle.rulebook.specs.Ledger.{is_armed}
use Rattle.rulebook.specs.Weights.{slot_ok}
use Rattle.record.specs.Layout.{ledger_of}
use Rattle.record.specs.Spelling.{is_spelled}
use Rattle.shown.specs.Shown.{armed_shown}
use Rattle.shown.proofs.Laws.{first_off, second_off, both_on, slot_small, slot_later, whole_long}
use mathlib.Core.Path.{ap}
use mathlib.Core.Bool.{not}
use Rattle.shown.proofs.armed_in.Goals as goal

pub returns-then-not-slot_ok : goal.returns-then-not-slot_ok
unfolding armed_shown
returns-then-not-slot_ok c =
    first_off (slot_ok c.args.s.0) (is_spelled c.args.rec.now) false (λ _. is_armed (ledger_of c.args.rec.now) c.args.s.0) (sym c.slot_ok.ensures ∙ c.if-not-slot_ok.true)

pub returns-then-not-is_long : goal.returns-then-not-is_long
unfolding armed_shown
returns-then-not-is_long c =
    second_off (slot_ok c.args.s.0) (is_spelled c.args.rec.now) false (λ _. is_armed (ledger_of c.args.rec.now) c.args.s.0) (sym c.is_long.ensures ∙ c.if-not-is_long.true)

pub is_armed-requires : goal.is_armed-requires
is_armed-requires c =
    let ok = sym c.slot_ok.ensures ∙ c.if-not-slot_ok.false in
    record { long = whole_long _ _ c.is_long.ensures (ap not c.if-not-is_long.false); later = slot_later _ ok; slot = slot_small _ ok }

pub returns : goal.returns
unfolding armed_shown
returns c =
    c.is_armed.ensures ∙ both_on (slot_ok c.args.s.0) (is_spelled c.args.rec.now) false (λ _. is_armed (ledger_of c.args.rec.now) c.args.s.0) (sym c.slot_ok.ensures ∙ c.if-not-slot_ok.false) (sym c.is_long.ensures ∙ c.if-not-is_long.false)
