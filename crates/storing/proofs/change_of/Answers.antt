-- What is read of the node, its stake and, for a notar vote, the weight of its block make what the vote adds. Assumes nothing.
use mathlib.Core.Path.{◌∙◌}
use native.Mathlib.Omega.{arith}
use Rattle.rulebook.specs.declared.Who.TheVariants as who
use Rattle.record.specs.Layout.{ledger_of}
use Rattle.storing.proofs.Laws.{storing_carded, storing_placed, storing_stake, stake_small, weight_small, change_notar, change_other}
use Rattle.storing.proofs.change_of.Goals as goal

pub load_cell-c-requires : goal.load_cell-c-requires
load_cell-c-requires c = storing_placed c.requires

pub stake-w-requires : goal.stake-w-requires
stake-w-requires c = storing_stake c.requires

pub weight_of-requires : goal.weight_of-requires
weight_of-requires c = storing_carded c.requires

pub adds-requires : goal.adds-requires
adds-requires c =
    (omega (arith, c.stake-w.ensures, stake_small c.requires), omega (arith, c.weight_of.ensures, weight_small c.requires (who.Notar c.args.b)))

pub returns-in-Notar : goal.returns-in-Notar
returns-in-Notar c =
    c.adds.ensures
    ∙ change_notar (ledger_of c.args.rec.now) c.args.s.0 c.args.n.0 c.args.k c.args.b _ _ _ c.load_cell-c.ensures c.stake-w.ensures c.weight_of.ensures

pub adds-requires-in_default : goal.adds-requires-in_default
adds-requires-in_default c = (omega (arith, c.stake-w.ensures, stake_small c.requires), omega arith)

pub returns-in_default : goal.returns-in_default
returns-in_default c =
    c.adds-in_default.ensures
    ∙ change_other (ledger_of c.args.rec.now) c.args.s.0 c.args.n.0 c.args.k c.args.b _ _ _ c.load_cell-c.ensures c.stake-w.ensures c.in_default.not-Notar
