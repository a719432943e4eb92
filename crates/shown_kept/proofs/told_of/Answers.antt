-- The block, and the signers of both masks weighed with the record's stakes.
use Rattle.record.specs.Layout.{ledger_of}
use Rattle.shown_kept.proofs.Laws.{weighable, told_same}
use Rattle.shown_kept.proofs.told_of.Goals as goal

pub block_at-block-requires : goal.block_at-block-requires
block_at-block-requires c = let p = c.requires in record { long = p.judging.long; slot = p.judging.slot; place = p.place }

pub stakes_of-stakes-requires : goal.stakes_of-stakes-requires
stakes_of-stakes-requires c = let p = c.requires.judging in record { long = p.long; few = p.table.few }

pub weigh-signed-requires : goal.weigh-signed-requires
weigh-signed-requires c =
    weighable c.args.rec.now c.args.s.0 c.requires.judging _ _ _ c.stakes_of-stakes.ensures c.mask_a-a.ensures.many c.mask_b-b.ensures.many

pub returns : goal.returns
returns c =
    let a = c.args in
    told_same (ledger_of a.rec.now) a.s.0 a.place _ _ _ _ _ _ c.place_kind.ensures c.block_at-block.ensures
    c.stakes_of-stakes.ensures c.mask_a-a.ensures.spells c.mask_b-b.ensures.spells
    c.weigh-signed.ensures
