-- Five stores at the card's place put it into the ledger, and nothing else changes.
use native.Mathlib.Numerals.{towards_suc}
use native.Mathlib.Omega.{arith}
use lib.ListN.{length-set}
use Rattle.record.proofs.Replacing.{card_put}
use Rattle.record.proofs.store_card.Goals as goal

pub bounds-rec-i-2 : goal.bounds-rec-i-2
bounds-rec-i-2 c = simp length-set (omega arith)

pub bounds-rec-i-3 : goal.bounds-rec-i-3
bounds-rec-i-3 c = simp length-set (omega arith)

pub bounds-rec-i-4 : goal.bounds-rec-i-4
bounds-rec-i-4 c = simp length-set (omega arith)

pub bounds-rec-i-5 : goal.bounds-rec-i-5
bounds-rec-i-5 c = simp length-set (omega arith)

pub returns : goal.returns
returns c =
    let a = c.before in
    simp towards_suc (card_put a.args.rec.now a.args.s.0 _ a.args.t a.requires c.card_start-i.ensures.is)
