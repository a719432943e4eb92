-- The leader first, then whether enough nodes name a block, then the six blocks that can hold kind 3.
use mathlib.Core.Path.{◌∙◌, sym}
use Rattle.record.specs.Layout.{ledger_of}
use Rattle.parents.proofs.LeaderLaws.{leader_held}
use Rattle.parents.proofs.FewLaws.{few_held}
use Rattle.parents.proofs.HeavyLaws.{six_held}
use Rattle.parents.proofs.some_name_held.Goals as goal

pub returns-then-leader_held : goal.returns-then-leader_held
returns-then-leader_held c =
    sym (leader_held (ledger_of c.args.rec.now) c.args.p.0 c.requires.carded.weighing.table (sym c.leader_held.ensures ∙ c.if-leader_held.true))

pub returns-then-not-enough_named : goal.returns-then-not-enough_named
returns-then-not-enough_named c =
    sym (few_held (ledger_of c.args.rec.now) c.args.p.0 c.requires.kept (sym c.enough_named.ensures ∙ c.if-not-enough_named.true))

pub returns : goal.returns
returns c =
    c.some_block_held.ensures ∙ six_held (ledger_of c.args.rec.now) c.args.p.0 c.requires.carded.weighing.table c.requires.kept _ c.heavy_names-blocks.ensures
