-- What the card shows against the kind's threshold, then what the kind's signers weigh.
use mathlib.Core.Path.{◌∙◌}
use Rattle.record.specs.Layout.{ledger_of}
use Rattle.pool.proofs.HeldLaws.{kind_weighable, missing_as}
use Rattle.pool.proofs.CardLaws.{card_is, card_enough}
use Rattle.pool.proofs.missing_to.Goals as goal

pub missing-shown-requires : goal.missing-shown-requires
missing-shown-requires c =
    kind_weighable (ledger_of c.args.rec.now) _ c.total-total.ensures c.requires.weighing.table _ _ c.threshold_of-needed.ensures

pub returns-then-shown-eq0 : goal.returns-then-shown-eq0
returns-then-shown-eq0 c =
    card_enough (ledger_of c.args.rec.now) c.args.s.0 _ (card_is c.requires _ c.load_card-card.ensures) c.args.kind c.args.b _ _ _ _ c.threshold_of-needed.ensures c.total-total.ensures _ c.signers_of-signers.ensures c.on_card.ensures c.missing-shown.ensures c.if-shown-eq0.true

pub missing-requires : goal.missing-requires
missing-requires c =
    kind_weighable (ledger_of c.args.rec.now) _ c.total-total.ensures c.requires.weighing.table _ _ c.threshold_of-needed.ensures

pub returns : goal.returns
returns c =
    c.missing.ensures
    ∙ missing_as (ledger_of c.args.rec.now) _ c.total-total.ensures c.args.kind c.args.s.0 c.args.b _ c.threshold_of-needed.ensures _ c.signers_of-signers.ensures _ c.weight_of.ensures
