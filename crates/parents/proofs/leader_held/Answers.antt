-- The card's weight against 60 percent.
use Rattle.record.specs.Layout.{ledger_of}
use Rattle.pool.proofs.CardLaws.{card_is}
use Rattle.parents.proofs.LeaderLaws.{card_sixty}
use Rattle.parents.proofs.leader_held.Goals as goal

pub returns : goal.returns
returns c =
    card_sixty (ledger_of c.args.rec.now) c.args.p.0 _ (card_is c.requires _ c.load_card-card.ensures) _ _ c.total.ensures c.missing-short.ensures
