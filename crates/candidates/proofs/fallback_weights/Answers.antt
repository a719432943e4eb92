-- The block's weight beside the card's skips.
use mathlib.Core.Path.{◌∙◌}
use Rattle.record.specs.Layout.{ledger_of}
use Rattle.pool.proofs.CardLaws.{card_is}
use Rattle.candidates.proofs.CardLaws.{block_within, block_heavy}
use Rattle.candidates.proofs.fallback_weights.Goals as goal

pub is_heavy-requires : goal.is_heavy-requires
is_heavy-requires c =
    block_within (ledger_of c.args.rec.now) c.args.s.0 c.requires.weighing.table _ (card_is c.requires _ c.load_card-card.ensures) _ c.total.ensures c.args.b _ c.weight_of-notar.ensures

pub returns : goal.returns
returns c =
    c.is_heavy.ensures
    ∙ block_heavy (ledger_of c.args.rec.now) c.args.s.0 c.requires.weighing.table _ (card_is c.requires _ c.load_card-card.ensures) _ c.total.ensures c.args.b _ c.weight_of-notar.ensures
