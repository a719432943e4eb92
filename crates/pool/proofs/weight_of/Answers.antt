-- What the card shows whole, else what is weighed.
use mathlib.Core.Path.{◌∙◌, sym}
use Rattle.record.specs.Layout.{ledger_of}
use Rattle.pool.proofs.CardLaws.{card_is, card_whole}
use Rattle.pool.proofs.weight_of.Goals as goal

pub returns-then-is_on_card : goal.returns-then-is_on_card
returns-then-is_on_card c =
    card_whole (ledger_of c.args.rec.now) c.args.s.0 _ (card_is c.requires _ c.load_card-card.ensures) c.args.who _ (sym c.is_on_card.ensures ∙ c.if-is_on_card.true) c.on_card.ensures
