-- The spelling, the head, the rows by themselves, and what own fallbacks lean on, in that order.
use mathlib.Core.Path.{◌∙◌, sym}
use Rattle.rulebook.specs.WellFormed.{row_blank}
use Rattle.rule_laws.proofs.ToolLaws.{and_both}
use Rattle.record.specs.Layout.{ledger_of}
use Rattle.record.proofs.Spelled.{spelled_long}
use Rattle.soundness.proofs.Laws.{standing, short_unsound, head_unsound, rows_headed, rows_unsound, owns_decide}
use Rattle.soundness.proofs.sound.Goals as goal

pub returns-then-not-is_long : goal.returns-then-not-is_long
returns-then-not-is_long c = short_unsound c.args.rec.now (sym c.is_long.ensures ∙ c.if-not-is_long.true)

pub head_fits-requires : goal.head_fits-requires
head_fits-requires c = spelled_long _ (sym c.is_long.ensures ∙ c.if-not-is_long.false)

pub returns-then-not-head_fits : goal.returns-then-not-head_fits
returns-then-not-head_fits c =
    head_unsound c.args.rec.now (sym c.is_long.ensures ∙ c.if-not-is_long.false) (sym c.head_fits.ensures ∙ c.if-not-head_fits.true)

pub rows_fit-requires : goal.rows_fit-requires
rows_fit-requires c =
    rows_headed _ (sym c.is_long.ensures ∙ c.if-not-is_long.false) (sym c.head_fits.ensures ∙ c.if-not-head_fits.false)

pub returns-then-not-rows_fit : goal.returns-then-not-rows_fit
returns-then-not-rows_fit c =
    rows_unsound c.args.rec.now (sym c.is_long.ensures ∙ c.if-not-is_long.false) (sym c.head_fits.ensures ∙ c.if-not-head_fits.false)
    (sym c.rows_fit.ensures ∙ c.if-not-rows_fit.true)

pub owns_fit-requires : goal.owns_fit-requires
owns_fit-requires c =
    let l = ledger_of c.args.rec.now in
    record {
      headed = rows_headed _ (sym c.is_long.ensures ∙ c.if-not-is_long.false) (sym c.head_fits.ensures ∙ c.if-not-head_fits.false);
      rows = (and_both (row_blank l) (standing l) (sym c.rows_fit.ensures ∙ c.if-not-rows_fit.false)).1;
    }

pub returns : goal.returns
returns c =
    owns_decide c.args.rec.now (sym c.is_long.ensures ∙ c.if-not-is_long.false) _ (sym c.head_fits.ensures ∙ c.if-not-head_fits.false)
    (sym c.rows_fit.ensures ∙ c.if-not-rows_fit.false) c.owns_fit.ensures
