-- The five words at the card's place are the card.
use Rattle.record.proofs.Reading.{card_read}
use Rattle.record.proofs.load_card.Goals as goal

pub returns : goal.returns
returns c = card_read c.args.rec.now c.args.s.0 _ c.requires c.card_start-i.ensures.is
