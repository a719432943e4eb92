-- The stakes of the nodes, compared as lists.
use Rattle.std.proofs.Common.{rules}
use Rattle.record.specs.Layout.{ledger_of}
use Rattle.soundness.proofs.Laws.{sound_counted, sound_placed}
use Rattle.differences.proofs.TableLaws.{tables_told}
use Rattle.differences.proofs.same_tables.Goals as goal

pub stakes_of-requires : goal.stakes_of-requires
stakes_of-requires c = sound_counted _ c.requires.first

pub stakes_of-requires-2 : goal.stakes_of-requires-2
stakes_of-requires-2 c = sound_counted _ c.requires.second

pub returns : goal.returns
returns c =
    let a = c.args in
    tables_told (ledger_of a.one.now) (ledger_of a.two.now) (sound_placed _ c.requires.first) (sound_placed _ c.requires.second) _ (search rules) (search rules)
