-- Kinds 1 and 2 are not reached for a block that does not lead; else a certificate is reached where nothing is missing to it.
use mathlib.Core.Path.{◌∙◌, sym, ap}
use Prim.Native.Nat.{ℕ}
use lib.Dec.{eqb}
use Rattle.rule_laws.proofs.WeightLaws.{reached_missing}
use Rattle.record.specs.Layout.{ledger_of}
use Rattle.pool.proofs.CardLaws.{card_is, card_behind}
use Rattle.pool.proofs.reached.Goals as goal

pub returns-then-is_behind : goal.returns-then-is_behind
returns-then-is_behind c =
    sym (card_behind (ledger_of c.args.rec.now) c.args.s.0 _ (card_is c.requires _ c.load_card-card.ensures) c.requires.weighing.table c.args.kind c.args.b _ c.signers_of.ensures (sym c.is_behind.ensures ∙ c.if-is_behind.true))

pub returns : goal.returns
returns c =
    let a = c.args in
    ap (λ (x : ℕ). eqb x 0) c.missing_to.ensures ∙ sym (reached_missing (ledger_of a.rec.now) a.kind a.s.0 a.b)
